-- From the contracts of `convert` and `write_refusal` to what the program has to write. Assumes nothing.
use Prim.Native.Nat.{ℕ, ◌≤◌, ◌<◌, ◌^◌}
use mathlib.Core.Path.{◌≡◌, refl, sym, ap, ◌∙◌}
use mathlib.Core.List.{List}
use native.Mathlib.Omega.{arith}
use lib.ListN.{length, take}
use Rattle.std.specs.Prelude.{Some, None, Result, Ok, Err}
use Rattle.faults.specs.declared.Refusal.{Refusal}
use Rattle.faults.specs.Refusals.{Verdict, accepted, refused}
use Rattle.writing.specs.Written.{refusal_line}
use Rattle.writing.specs.Writing.{write_refusal_verdict, WriteDone}
use Rattle.writing.proofs.Theorems.{Written, refusal_written, refusal_line_short}
use Rattle.converting.specs.Conversion.{conversion, written, program_output}
use Rattle.converting.specs.Converting.{longest_output, ConvertDone}
use Rattle.converting.proofs.PutTextLaws.{take-laid}
use Rattle.converting.proofs.Theorems.{convert_written, convert_refused, conversion-short, line-short}
use Rattle.brinetoggle.specs.Responding.{Responded}

ok-is-not-err : {X : Type 0} (n : ℕ) (x : Refusal) → ◌≡◌ {A = Result ℕ Refusal} (Ok n) (Err x) → X
ok-is-not-err n x e = let z : ◌≡◌ {A = ℕ} 0 1 = cc in absurd (omega arith)

-- the line of a refusal of the conversion is written
pub refusal-wrote : (x : Refusal) {a : Result ℕ Refusal} {old new : List ℕ} → x.place < 2 ^ 64 → x.second < 2 ^ 64 → longest_output ≤ length old
    → WriteDone (write_refusal_verdict x (length old)) old a new → Written a old new (refusal_line x)
refusal-wrote x {a} {old} {new} p s roomy w = let short = refusal_line_short x p s in refusal_written a old new x w (omega arith)

module _ (input old new : List ℕ) (r : Result ℕ Refusal) (roomy : longest_output ≤ length old) (same : length new ≡ length old) (d : ConvertDone input old r new) where
  -- the mesh
  pub mesh_responded : (n : ℕ) → r ≡ Ok n → Responded input (record { length = n; refusal = None }) new
  unfolding program_output
  mesh_responded n q = by (conversion input) refl
    where
      by : (v : Verdict (List ℕ)) → conversion input ≡ v → Responded input (record { length = n; refusal = None }) new
      by (accepted text) e =
          let short = conversion-short input text e in
          let s = convert_written input old r new d text e (omega arith) in
          let size : n ≡ length text = let z : ◌≡◌ {A = Result ℕ Refusal} (Ok n) (Ok (length text)) = sym q ∙ s.answer in cc in
          let bytes : take n new ≡ text = rw (size, s.output) (take-laid text old) in
          record { bytes = bytes ∙ sym (ap written e); within = omega arith; verdict = ap accepted bytes ∙ sym e }
      by (refused x) e = ok-is-not-err n x (sym q ∙ (convert_refused input old r new d x e).answer)

  -- the line of a refusal
  pub refusal_responded : (x : Refusal) (n : ℕ) (new' : List ℕ) → length new' ≡ length new → r ≡ Err x → Written (Ok n) new new' (refusal_line x)
      → Responded input (record { length = n; refusal = Some x }) new'
  unfolding program_output
  refusal_responded x n new' same' q w = by (conversion input) refl
    where
      at : conversion input ≡ refused x → Responded input (record { length = n; refusal = Some x }) new'
      at e =
          let size : n ≡ length (refusal_line x) = let z : ◌≡◌ {A = Result ℕ Refusal} (Ok n) (Ok (length (refusal_line x))) = w.answer in cc in
          let short = line-short input x e in
          let bytes : take n new' ≡ refusal_line x = rw (size, w.buffer) (take-laid (refusal_line x) new) in
          record { bytes = bytes ∙ sym (ap written e); within = omega arith; verdict = sym e }

      by : (v : Verdict (List ℕ)) → conversion input ≡ v → Responded input (record { length = n; refusal = Some x }) new'
      by (accepted text) e =
          let short = conversion-short input text e in
          ok-is-not-err (length text) x (sym (convert_written input old r new d text e (omega arith)).answer ∙ q)
      by (refused y) e =
          let z : ◌≡◌ {A = Result ℕ Refusal} (Err x) (Err y) = sym q ∙ (convert_refused input old r new d y e).answer in
          let same-one : y ≡ x = cc in at (rw e (ap refused same-one))
