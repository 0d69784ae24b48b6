-- The cut of a cut, for files: the program's output, where it is within the reader's limits, is its own output. A reader starts here.
-- Assumes nothing.
use mathlib.Core.Path.{◌≡◌, refl, sym, ◌∙◌, subst}
use mathlib.Core.List.{List}
use Prim.Native.Nat.{ℕ, ◌≤◌}
use native.Mathlib.Omega.{arith}
use lib.ListN.{length, get_or}
use Rattle.limits.specs.Limits.{file_limit, element_limit}
use Rattle.faults.specs.Refusals.{Verdict, accepted, refused, and_then}
use Rattle.solids.specs.Solids.{Vertex, Tet}
use Rattle.mesh.specs.Cutting.{cut_of}
use Rattle.format.specs.File.{file_verdict}
use Rattle.format.specs.Records.{stored_vertices, stored_elements}
use Rattle.converting.specs.Conversion.{rooms, cut_room, cut_text, conversion, program_output}
use Rattle.promises.specs.OwnOutput.{tetrahedra_of}
use Rattle.promises.proofs.OwnOutputLaws.{converted_again}

-- what an input with tetrahedra is converted to
record Converted (input : List ℕ) (ts : List (Tet Vertex)) : Type 0 where
  counts : List ℕ
  read : file_verdict rooms input ≡ accepted counts
  cut : cut_of (get_or counts 0 0) (get_or counts 1 0) (stored_elements rooms input) cut_room ≡ accepted ts
  text : conversion input ≡ accepted (cut_text (stored_vertices rooms input) (get_or counts 0 0) ts)

converted : (input : List ℕ) (ts : List (Tet Vertex)) → tetrahedra_of input ≡ accepted ts → Converted input ts
unfolding tetrahedra_of conversion
converted input ts = by (file_verdict rooms input) refl
  where
    by : (x : Verdict (List ℕ)) → file_verdict rooms input ≡ x
        → and_then x (λ counts. cut_of (get_or counts 0 0) (get_or counts 1 0) (stored_elements rooms input) cut_room) ≡ accepted ts → Converted input ts
    by (accepted cs) q e = record { counts = cs; read = q; cut = e; text = rw (q, e) }
    by (refused r) q e = let z : ◌≡◌ {A = ℕ} 0 1 = cc in absurd (omega arith)

module _ (input : List ℕ) (ts : List (Tet Vertex)) (accepts : tetrahedra_of input ≡ accepted ts) (few : length ts ≤ element_limit) where
  -- at most 1,024 tetrahedra, at most 65,536 bytes: a text that a conversion gives is converted to itself
  pub own-conversion : (text : List ℕ) → conversion input ≡ accepted text → length text ≤ file_limit → conversion text ≡ accepted text
  own-conversion text e short =
      let c = converted input ts accepts in
      let same : cut_text (stored_vertices rooms input) (get_or c.counts 0 0) ts ≡ text = let z = sym c.text ∙ e in cc in
      subst (λ (l : List ℕ). conversion l ≡ accepted l) same
      (converted_again input c.counts ts c.read c.cut few (subst (λ (l : List ℕ). length l ≤ file_limit) (sym same) short))

  -- so the program's output is its own output
  pub own-output : length (program_output input) ≤ file_limit → program_output (program_output input) ≡ program_output input
  unfolding program_output
  own-output short =
      let e = (converted input ts accepts).text in
      let again = own-conversion _ e (rw e at short) in
      rw e (rw again)
