-- What converting promises, in the words of specs/ alone. A reader starts here.
--   convert_unique      two answers and two outputs that the contract allows are equal
--   convert_written     where the output is as long as the text, the answer is its length, and the output holds it, then what stood there
--   convert_room        where the output is shorter, by one byte or more, the answer is ROOM at place 0, and the output is as it was
--   convert_refused     the reader's or the cutter's refusal is the answer, and the output is as it was
--   longest_suffices    no conversion gives a longer text, so that a buffer of that length never gives ROOM
--   program_output_lem      the program's two calls give it exactly what the page says that it writes
-- Assumes nothing.
use mathlib.Core.Path.{◌≡◌, refl, sym, ap, ◌∙◌}
use mathlib.Core.List.{List, [], ◌∷◌}
use Prim.Native.Nat.{ℕ, ◌≤◌, ◌<◌}
use native.Mathlib.Omega.{arith}
use lib.ListN.{length}
use borrow.Author.Tests.{le-ltb, lt-ltb}
use Rattle.laws.specs.Lent.{laid}
use Rattle.faults.specs.Refusals.{Verdict, accepted, refused, refuse, and_then}
use Rattle.faults.specs.declared.Fault.TheVariants as fault
use Rattle.faults.specs.declared.Refusal.{Refusal}
use Rattle.faults.proofs.Theorems.{answer_tells_verdict}
use Rattle.writing.specs.Written.{in_room, refusal_line}
use Rattle.writing.proofs.Theorems.{refusal_written, refusal_line_short}
use Rattle.std.specs.Prelude.{Result, Ok, Err}
use Rattle.converting.specs.Conversion.{conversion, written, program_output}
use Rattle.converting.specs.Converting.{longest_output, conversion_into, convert_verdict, Left, ConvertDone}
use Rattle.converting.specs.Program.{longest_line, LineDone, line_bytes, bytes_from}
use Rattle.converting.proofs.PutTextLaws.{take-laid}
use Rattle.converting.proofs.ConvertLaws.{left_refused, left-done}
use Rattle.converting.proofs.PlaceLaws.{conversion_near}
use Rattle.converting.proofs.ShortLaws as ShortLaws

-- ---- two answers, and two outputs, that the contract allows are equal

verdict_tells_answer : (r s : Result ℕ Refusal) → convert_verdict r ≡ convert_verdict s → r ≡ s
unfolding convert_verdict
verdict_tells_answer (Ok m) (Ok n) e = let z : m ≡ n = cc in ap Ok z
verdict_tells_answer (Ok m) (Err s) e = let z : ◌≡◌ {A = ℕ} 0 1 = cc in absurd (omega arith)
verdict_tells_answer (Err r) (Ok n) e = let z : ◌≡◌ {A = ℕ} 0 1 = cc in absurd (omega arith)
verdict_tells_answer (Err r) (Err s) e = let z : r ≡ s = cc in ap Err z

-- what the contract fixes: the answer, and every byte of the output
pub record Same (r s : Result ℕ Refusal) (new new' : List ℕ) : Type 0 where
  pub answer : r ≡ s
  pub output : new ≡ new'

left_unique : (v : Verdict (List ℕ)) (old : List ℕ) {r s : Result ℕ Refusal} {new new' : List ℕ} → Left v old r new → Left v old s new' → Same r s new new'
left_unique v old {r} {s} d k = record {
  answer = verdict_tells_answer r s (answer_tells_verdict (0 ∷ []) (convert_verdict r) (convert_verdict s) (d.answer ∙ sym k.answer));
  output = d.output ∙ sym k.output;
}

-- `convert`
pub convert_unique : (input old : List ℕ) (r s : Result ℕ Refusal) (new new' : List ℕ) → ConvertDone input old r new → ConvertDone input old s new'
    → Same r s new new'
convert_unique input old r s new new' d k = left_unique (conversion_into (length old) input) old d.left k.left

-- ---- what is done, and what is refused

module _ (input old : List ℕ) (r : Result ℕ Refusal) (new : List ℕ) (d : ConvertDone input old r new) where
  decided : (v : Verdict (List ℕ)) {s : Result ℕ Refusal} {new' : List ℕ} → conversion_into (length old) input ≡ v → Left v old s new' → Same r s new new'
  decided v e k = left_unique v old (rw e at d.left) k

  pub convert_written : (text : List ℕ) → conversion input ≡ accepted text → length text ≤ length old → Same r (Ok (length text)) new (laid text old)
  unfolding conversion_into in_room
  convert_written text e h = decided (accepted text) (rw (e, le-ltb (length old) (length text) h)) (left-done text old)

  pub convert_room : (text : List ℕ) → conversion input ≡ accepted text → length old < length text → Same r (Err (refuse fault.Room 0)) new old
  unfolding conversion_into in_room
  convert_room text e h =
      decided (refused (refuse fault.Room 0)) (rw (e, lt-ltb (length old) (length text) h)) (left_refused old refl refl)

  pub convert_refused : (x : Refusal) → conversion input ≡ refused x → Same r (Err x) new old
  unfolding conversion_into
  convert_refused x e = decided (refused x) (rw e) (left_refused old refl refl)

-- ---- the longest output

pub conversion-short : (input text : List ℕ) → conversion input ≡ accepted text → length text ≤ longest_output
conversion-short = ShortLaws.conversion-short

pub longest_suffices : (input : List ℕ) (room : ℕ) → longest_output ≤ room → conversion_into room input ≡ conversion input
unfolding conversion_into in_room
longest_suffices input room h = by (conversion input) refl
  where
    by : (v : Verdict (List ℕ)) → conversion input ≡ v → and_then v (in_room room) ≡ v
    by (accepted text) e = let short = conversion-short input text e in rw (le-ltb room (length text) (omega arith))
    by (refused x) e = refl

-- ---- the program

-- the line of a refused conversion always has room
pub line-short : (input : List ℕ) (x : Refusal) → conversion input ≡ refused x → length (refusal_line x) ≤ longest_line
line-short input x e = let n = conversion_near input x e in refusal_line_short x (omega (arith, n.place)) (omega (arith, n.second))

pub program_output_lem : (input output output' line line' : List ℕ) (r : Result ℕ Refusal) (a : Result ℕ Refusal)
    → longest_output ≤ length output → longest_line ≤ length line
    → ConvertDone input output r output' → LineDone r line a line'
    → bytes_from r output' a line' ≡ program_output input
unfolding program_output
program_output_lem input output output' line line' r a roomy lined d l = by (conversion input) refl
  where
    refusal : (x : Refusal) → length (refusal_line x) ≤ longest_line → LineDone (Err x) line a line' → line_bytes a line' ≡ refusal_line x
    refusal x short w =
        let k = refusal_written a line line' x w (omega arith) in
        rw (k.answer, k.buffer) (take-laid (refusal_line x) line)

    by : (v : Verdict (List ℕ)) → conversion input ≡ v → bytes_from r output' a line' ≡ written (conversion input)
    by (accepted text) e =
        let short = conversion-short input text e in
        let s = convert_written input output r output' d text e (omega arith) in
        rw (e, s.answer, s.output) (take-laid text output)
    by (refused x) e =
        let s = convert_refused input output r output' d x e in
        rw (e, s.answer) (refusal x (line-short input x e) (rw s.answer at l))
