-- The vertex numbers of an accepted table's tetrahedra lie from 1 to the vertex count; so their keys tell the tetrahedra.
-- Assumes nothing.
use mathlib.Core.Path.{◌≡◌, refl, sym, subst}
use mathlib.Core.Bool.{Bool, true, ◌&&◌}
use mathlib.Core.List.{List, [], ◌∷◌, map}
use Prim.Native.Nat.{ℕ, ◌<◌}
use native.Mathlib.Omega.{arith}
use lib.Dec.{T, leb, ltb, leb→le}
use Rattle.laws.specs.Words.{every, among, gather}
use Rattle.laws.proofs.TestLaws.{and_left, and_right, and_both}
use Rattle.laws.proofs.EveryLaws.{every_implies, every_append, among-every}
use Rattle.faults.specs.Refusals.{accepted}
use Rattle.solids.specs.Solids.{Tet, tet, Element, of_tet, corners_of}
use Rattle.solids.specs.Cut.{cut, cut_mesh}
use Rattle.solids.specs.Fit.{proper}
use Rattle.solids.proofs.Theorems.{plain}
use Rattle.records.specs.Record.{element_of, record_at, element_at}
use Rattle.records.specs.WholeRecords.{is_number}
use Rattle.records.proofs.Theorems.{first_all, clean_faultless, clean-whole, whole-proper}
use Rattle.judging.specs.Judge.{judged}
use Rattle.judging.proofs.Theorems.{accepted-elements, accepted_acceptable}
use Rattle.tets.specs.Tets.{key_of, keyed}
use Rattle.tets.proofs.Theorems.{keyed-again}
use Rattle.blocks.specs.Blocks.{keys_of, numbered}

-- what holds of all that each member gives holds of all that the list gives
every-gather : {A B : Type 0} (P : A → Bool) (Q : B → Bool) (f : A → List B) → ((x : A) → T (P x) → T (every Q (f x))) → (l : List A) → T (every P l) → T (every Q (gather f l))
every-gather P Q f h [] p = tt
every-gather P Q f h (x ∷ l) p =
    every_append Q (f x) (gather f l) (h x (and_left (P x) (every P l) p)) (every-gather P Q f h l (and_right (P x) (every P l) p))

module _ (v : ℕ) where
  -- a proper element with corners from 1 to v
  abbrev within : Element → Bool
  within e = proper e && every (is_number v) (corners_of e)

  cut-numbered : (e : Element) → T (within e) → T (every (numbered v) (cut e))
  unfolding numbered
  cut-numbered e h =
      every_implies (λ t. every (λ w. among w (corners_of e)) (of_tet t)) (λ t. every (is_number v) (of_tet t))
      (λ t. every_implies (λ w. among w (corners_of e)) (is_number v) (among-every (is_number v) (corners_of e) (and_right (proper e) (every (is_number v) (corners_of e)) h)) (of_tet t))
      (cut e) (plain e (and_left (proper e) (every (is_number v) (corners_of e)) h)).own

  module _ (n : ℕ) (t : List ℕ) (es : List Element) (e : judged v n t ≡ accepted es) where
    all_within : T (every within es)
    unfolding element_at element_of
    all_within =
        let a = accepted_acceptable v n t es e in
        subst (λ x. T (every within x)) (sym (accepted-elements v n t es e))
        (first_all t within n λ k l.
        let r = record_at t k in
        and_both (proper (element_of r)) (every (is_number v) (corners_of (element_of r)))
        (whole-proper r (clean-whole v r (a.clean k l))) (clean_faultless v r (a.clean k l)).inside)

    pub accepted-numbered : T (every (numbered v) (cut_mesh es))
    unfolding cut_mesh
    accepted-numbered = every-gather within (numbered v) cut cut-numbered es all_within

    -- four numbers up to the count are digits of the base
    digit : (w : ℕ) → T (is_number v w) → w < 65536
    digit w h =
        let few = (accepted_acceptable v n t es e).vertices in
        let low = leb→le w v (and_right (ltb 0 w) (leb w v) h) in
        omega arith

    keyed_one : (u : Tet ℕ) → T (numbered v u) → keyed (key_of u) ≡ u
    unfolding numbered
    keyed_one (tet a b c d) h =
        let p = is_number v in
        let hb = and_right (p a) (every p (b ∷ c ∷ d ∷ [])) h in
        let hc = and_right (p b) (every p (c ∷ d ∷ [])) hb in
        let hd = and_right (p c) (every p (d ∷ [])) hc in
        keyed-again a b c d (digit b (and_left (p b) (every p (c ∷ d ∷ [])) hb)) (digit c (and_left (p c) (every p (d ∷ [])) hc)) (digit d (and_left (p d) true hd))

    keyed_all : (ts : List (Tet ℕ)) → T (every (numbered v) ts) → map keyed (map key_of ts) ≡ ts
    keyed_all [] h = refl
    keyed_all (u ∷ ts) h =
        λ i. keyed_one u (and_left (numbered v u) (every (numbered v) ts) h) i ∷ keyed_all ts (and_right (numbered v u) (every (numbered v) ts) h) i

    pub keys_tell : map keyed (keys_of es) ≡ cut_mesh es
    unfolding keys_of
    keys_tell = keyed_all (cut_mesh es) accepted-numbered
