-- From the blocks of a table and what is stored of them to the answer of cutting.
-- Assumes nothing.
use mathlib.Core.Path.{◌≡◌, sym, ap, ◌∙◌, subst}
use mathlib.Core.List.{List, [], ◌∷◌, map}
use Prim.Native.Nat.{ℕ, ◌*◌, ◌/◌, ◌≤◌, ◌<◌}
use native.Mathlib.Omega.{arith}
use Rattle.std.specs.Prelude.{Result, Ok, Err}
use lib.ListN.{length, take, length-map}
use borrow.Author.Tests.{lt-ltb, le-ltb}
use Rattle.std.specs.Prelude.{Ok, Err}
use Rattle.limits.specs.Limits.{tetrahedron_width, tetrahedron_limit}
use Rattle.laws.specs.Lent.{laid}
use Rattle.laws.proofs.LentLaws.{laid_none}
use Rattle.faults.specs.declared.Fault.TheVariants.{Room}
use Rattle.faults.specs.declared.Refusal.{Refusal}
use Rattle.faults.specs.Refusals.{accepted, refuse, answer_of}
use Rattle.solids.specs.Solids.{Tet}
use Rattle.solids.specs.Cut.{cut_mesh}
use Rattle.tets.specs.Tets.{keyed}
use Rattle.blocks.specs.Blocks.{BlocksDone, BlocksCut}
use Rattle.blocks.proofs.Theorems.{blocks_refused, blocks_cut, keys_few, keys_kept, keys_first, keys_tell}
use Rattle.mesh.specs.declared.CutCounts.{CutCounts}
use Rattle.mesh.specs.Cutting.{flat, cut_of, CutDone}
use Rattle.mesh.specs.StoreLoops.{roomed, CutStored}

-- ---- tetrahedra that are stored where there is room

module _ (keys old : List ℕ) where
  abbrev told : List (Tet ℕ)
  told = map keyed keys

  told_length : length told ≡ length keys
  told_length = length-map keys keyed

  pub no_room : length old / 4 < length keys → CutStored told old (Err (refuse Room 0)) old
  unfolding roomed
  no_room h =
      let short = lt-ltb (length old) (tetrahedron_width * length told) (omega (arith, told_length)) in
      record { answer = rw short; output = rw short (sym (laid_none old)) }

  pub with_room : length keys ≤ length old / 4 → {new : List ℕ} → new ≡ laid (flat told) old
      → CutStored told old (Ok (record { tetrahedra = length keys })) new
  unfolding roomed
  with_room h o =
      let enough = le-ltb (length old) (tetrahedron_width * length told) (omega (arith, told_length)) in
      record { answer = rw enough (ap (λ (m : ℕ). accepted (m ∷ [])) (sym told_length)); output = rw enough o }

-- ---- the entry

module _ {v n : ℕ} {t keys sizes keys' sizes' : List ℕ} where
  -- refused as judged
  pub table-refused : {old : List ℕ} {x : Refusal} → BlocksDone v n t keys sizes (Err x) keys' sizes' → CutDone v n t old (Err x) old
  unfolding cut_of
  table-refused {old} h = let e = blocks_refused h in record { answer = rw e; output = rw e (sym (laid_none old)) }

  module _ {count : ℕ} (h : BlocksDone v n t keys sizes (Ok count) keys' sizes') where
    b : BlocksCut v n t keys sizes count keys' sizes'
    b = blocks_cut h

    -- so what they tell is the cut
    tets_told : map keyed (take count keys') ≡ cut_mesh b.elements
    tets_told = ap (map keyed) (keys_first b) ∙ keys_tell v n t b.elements b.accepts

    -- all the keys are there
    pub keys_enough : tetrahedron_limit ≤ length keys → count ≤ length keys'
    keys_enough l = omega (arith, keys_few b, keys_kept b l)

    pub table-cut : {old : List ℕ} {r : Result CutCounts Refusal} {new : List ℕ} → CutStored (map keyed (take count keys')) old r new → CutDone v n t old r new
    unfolding cut_of roomed
    table-cut {old} {r} {new} s =
        let e = b.accepts in
        let p = subst (λ ts. CutStored ts old r new) tets_told s in
        record { answer = rw e (ap (answer_of (0 ∷ [])) p.answer); output = rw e p.output }
