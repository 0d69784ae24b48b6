-- What an answer that a contract allows tells: whether the table was accepted, and the tetrahedra that stand in the output.
-- Assumes nothing.
use mathlib.Core.Path.{◌≡◌, refl, sym, ap, subst, ◌∙◌}
use mathlib.Core.Bool.{Bool, true, false}
use mathlib.Core.List.{List, [], ◌∷◌, ◌++◌}
use Prim.Native.Nat.{ℕ, ◌*◌, ◌≤◌}
use native.Mathlib.Omega.{arith}
use lib.Dec.{T, ltb}
use lib.ListN.{length, drop}
use Rattle.std.specs.Prelude.{Ok}
use borrow.Author.Tests.{ltb-false, le-ltb}
use Rattle.limits.specs.Limits.{tetrahedron_width}
use Rattle.laws.specs.Words.{gather}
use Rattle.laws.specs.Lent.{laid}
use Rattle.faults.specs.declared.Fault.TheVariants.{Room}
use Rattle.faults.specs.declared.Refusal.{Refusal}
use Rattle.faults.specs.Refusals.{Verdict, accepted, refused, refuse, refuse_if, and_then, records_of, answer_of}
use Rattle.faults.proofs.Theorems.{answer_tells_verdict}
use Rattle.solids.specs.Solids.{Vertex, Tet, tet, Element, of_tet}
use Rattle.solids.specs.Cut.{cut_mesh}
use Rattle.records.specs.Record.{first_elements}
use Rattle.judging.specs.Judge.{judged, JudgeDone}
use Rattle.mesh.specs.Cutting.{flat, cut_of, CutDone}
use Rattle.signs.specs.Signs.{is_accepted}
use Rattle.judging.proofs.Theorems.{accepted-elements}
use Rattle.promises.specs.Tables.{tetrahedra_in}

-- ---- verdicts

-- accepted and refused are not the same
pub never_both : {A : Type 0} {x : A} {r : Refusal} → ◌≡◌ {A = Verdict A} (accepted x) (refused r) → ⊥
never_both e = let z : ◌≡◌ {A = ℕ} 0 1 = cc in omega arith

pub is-accepted : {A : Type 0} (x : Verdict A) → T (is_accepted x) → (v : A) × (x ≡ accepted v)
is-accepted (accepted v) h = (v, refl)
is-accepted (refused r) h = absurd h

-- a table that is accepted is accepted with its elements
pub accepted-first : (v n : ℕ) (t : List ℕ) (es : List Element) → judged v n t ≡ accepted es → judged v n t ≡ accepted (first_elements t n)
accepted-first v n t es e = e ∙ ap accepted (accepted-elements v n t es e)

-- ---- judging

pub judge_accepted : (v n : ℕ) (t : List ℕ) → JudgeDone v n t (Ok tt) → judged v n t ≡ accepted (first_elements t n)
judge_accepted v n t d = go (judged v n t) refl (answer_tells_verdict [] (accepted []) (and_then (judged v n t) λ es. accepted []) d.answer)
  where
    go : (x : Verdict (List Element)) → judged v n t ≡ x → accepted [] ≡ and_then {B = List ℕ} x (λ es. accepted []) → judged v n t ≡ accepted (first_elements t n)
    go (accepted es) p q = accepted-first v n t es p
    go (refused r) p q = absurd (never_both q)

pub accepted_judge : (v n : ℕ) (t : List ℕ) (es : List Element) → judged v n t ≡ accepted es → JudgeDone v n t (Ok tt)
accepted_judge v n t es e = record { answer = ap (λ (x : Verdict (List Element)). answer_of [] (and_then x λ es. accepted [])) (sym e) }

-- ---- cutting

-- a cut that is accepted: the table is, and the cut of its elements has room
pub record Cuts (v n : ℕ) (t : List ℕ) (room : ℕ) : Type 0 where
  pub elements : judged v n t ≡ accepted (first_elements t n)
  pub fits : tetrahedron_width * length (cut_mesh (first_elements t n)) ≤ room

pub cut-accepted : (v n : ℕ) (t : List ℕ) (room : ℕ) → Cuts v n t room → cut_of v n t room ≡ accepted (cut_mesh (first_elements t n))
unfolding cut_of
cut-accepted v n t room c = rw (c.elements, le-ltb room (tetrahedron_width * length (cut_mesh (first_elements t n))) c.fits)

pub accepted-cut : (v n : ℕ) (t : List ℕ) (room : ℕ) (ts : List (Tet Vertex)) → cut_of v n t room ≡ accepted ts → Cuts v n t room
unfolding cut_of
accepted-cut v n t room ts e = go (judged v n t) refl e
  where
    roomy : (es : List Element) (b : Bool) → ltb room (tetrahedron_width * length (cut_mesh es)) ≡ b → refuse_if b (refuse Room 0) (accepted (cut_mesh es)) ≡ accepted ts
        → tetrahedron_width * length (cut_mesh es) ≤ room
    roomy es true p q = absurd (never_both (sym q))
    roomy es false p q = ltb-false room (tetrahedron_width * length (cut_mesh es)) p

    go : (x : Verdict (List Element)) → judged v n t ≡ x
        → and_then x (λ es. refuse_if (ltb room (tetrahedron_width * length (cut_mesh es))) (refuse Room 0) (accepted (cut_mesh es))) ≡ accepted ts → Cuts v n t room
    go (refused r) p q = absurd (never_both (sym q))
    go (accepted es) p q =
        record {
          elements = accepted-first v n t es p;
          fits = subst (λ (l : List Element). tetrahedron_width * length (cut_mesh l) ≤ room) (accepted-elements v n t es p) (roomy es (ltb room (tetrahedron_width * length (cut_mesh es))) refl q);
        }

-- a done answer: the count is that of the cut, and the output begins with the numbers of the cut
pub record DoneCut (v n : ℕ) (t old : List ℕ) (count : ℕ) (new : List ℕ) : Type 0 where
  pub cuts : Cuts v n t (length old)
  pub many : count ≡ length (cut_mesh (first_elements t n))
  pub output : new ≡ laid (flat (cut_mesh (first_elements t n))) old

module _ (v n : ℕ) (t old : List ℕ) (count : ℕ) (new : List ℕ) where
  pub answer-done : CutDone v n t old (Ok (record { tetrahedra = count })) new → DoneCut v n t old count new
  answer-done d =
      go (cut_of v n t (length old)) refl
      (answer_tells_verdict (0 ∷ []) (accepted (count ∷ [])) (and_then (cut_of v n t (length old)) λ ts. accepted (length ts ∷ [])) d.answer)
    where
      go : (x : Verdict (List (Tet Vertex))) → cut_of v n t (length old) ≡ x → accepted (count ∷ []) ≡ and_then x (λ ts. accepted (length ts ∷ []))
          → DoneCut v n t old count new
      go (refused r) p q = absurd (never_both q)
      go (accepted ts) p q =
          let c = accepted-cut v n t (length old) ts p in
          let e : cut_of v n t (length old) ≡ accepted (cut_mesh (first_elements t n)) = cut-accepted v n t (length old) c in
          let s : ts ≡ cut_mesh (first_elements t n) = cc in
          let k : count ≡ length ts = cc in
          record {
            cuts = c;
            many = k ∙ ap length s;
            output = d.output ∙ ap (λ (x : Verdict (List (Tet Vertex))). laid (records_of flat x) old) e;
          }

  pub done-answer : DoneCut v n t old count new → CutDone v n t old (Ok (record { tetrahedra = count })) new
  done-answer d =
      let e = cut-accepted v n t (length old) d.cuts in
      record {
        answer =
            ap (λ (k : ℕ). answer_of (0 ∷ []) (accepted (k ∷ []))) d.many
            ∙ ap (λ (x : Verdict (List (Tet Vertex))). answer_of (0 ∷ []) (and_then x λ ts. accepted (length ts ∷ []))) (sym e);
        output = d.output ∙ ap (λ (x : Verdict (List (Tet Vertex))). laid (records_of flat x) old) (sym e);
      }

-- ---- the tetrahedra in the output

read_back : (ts : List (Tet Vertex)) (rest : List ℕ) → tetrahedra_in (length ts) (gather of_tet ts ++ rest) ≡ ts
unfolding tetrahedra_in
read_back [] rest = refl
read_back (tet a b c d ∷ ts) rest = ap (λ (us : List (Tet Vertex)). tet a b c d ∷ us) (read_back ts rest)

-- the tetrahedra laid into a memory stand in it
pub laid-back : (ts : List (Tet Vertex)) (old : List ℕ) → tetrahedra_in (length ts) (laid (flat ts) old) ≡ ts
unfolding laid flat
laid-back ts old = read_back ts (drop (length (gather of_tet ts)) old)

pub done_tetrahedra : (v n : ℕ) (t old : List ℕ) (count : ℕ) (new : List ℕ) → DoneCut v n t old count new
    → tetrahedra_in count new ≡ cut_mesh (first_elements t n)
done_tetrahedra v n t old count new d =
    ap (λ (k : ℕ). tetrahedra_in k new) d.many
    ∙ ap (tetrahedra_in (length (cut_mesh (first_elements t n)))) d.output
    ∙ laid-back (cut_mesh (first_elements t n)) old
