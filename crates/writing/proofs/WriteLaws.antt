-- Laws of the writers' common contract: a refusal that leaves the buffer alone, a text that is stored where there is room, and the verdict
-- on a vertex, an element and EN by the tests that lead to it. Assumes nothing.
use Prim.Native.Nat.{ℕ, ◌≤◌, ◌<◌}
use mathlib.Core.Path.{◌≡◌, refl, sym, ap}
use mathlib.Core.Logic.{◌⊎◌, inl, inr}
use mathlib.Core.Bool.{true, false, ◌&&◌}
use mathlib.Core.List.{List, ◌++◌}
use Rattle.std.specs.Prelude.{Result, Ok, Err}
use lib.IntN.{ℤ}
use lib.ListN.{length, take, drop}
use borrow.Author.Tests.{lt-ltb, le-ltb}
use Rattle.limits.specs.Limits.{vertex_limit, tetrahedron_limit}
use Rattle.laws.specs.Lent.{laid}
use Rattle.laws.proofs.LentLaws.{laid_none}
use Rattle.faults.specs.Refusals.{Verdict, accepted, refused, refuse}
use Rattle.faults.specs.declared.Refusal.{Refusal}
use Rattle.std.specs.Prelude.{Ok, Err}
use Rattle.faults.specs.declared.Fault.{Fault}
use Rattle.faults.specs.declared.Fault.TheVariants as fault
use Rattle.volume.specs.Volume.{in_range}
use Rattle.records.specs.Record.{record_finding}
use Rattle.writing.specs.Written.{closed, vertex_line, element_line, end_line, in_room, write_vertex_verdict, write_element_verdict, write_end_verdict}
use Rattle.writing.specs.Writing.{write_verdict, WriteDone}
use Rattle.writing.specs.WriteLoops.{Put}
use Rattle.writing.proofs.PutLaws.{front-laid, front_length, front-line}

-- ---- what meets the contract

-- a refusal, and the buffer as it was
pub refused_done : {v : Verdict (List ℕ)} {r x : Refusal} (old : List ℕ) → v ≡ refused r → x ≡ r → WriteDone v old (Err x) old
unfolding write_verdict
refused_done old e f = rw (e, f) (record { answer = refl; buffer = sym (laid_none old) })

-- a text's length, and the text with what stood behind it
pub accepted-done : (text old : List ℕ) → WriteDone (accepted text) old (Ok (length text)) (laid text old)
unfolding write_verdict
accepted-done text old = record { answer = refl; buffer = refl }

-- ROOM, and the buffer as it was
pub room_done : (text old : List ℕ) {x : Refusal} → length old < length text → x ≡ refuse fault.Room 0
    → WriteDone (in_room (length old) text) old (Err x) old
unfolding in_room
room_done text old h e = refused_done old (rw (lt-ltb (length old) (length text) h)) e

-- a text that there is room for
pub laid_done : {n : ℕ} {new : List ℕ} (text old : List ℕ) → n ≡ length text → length text ≤ length old → new ≡ laid text old
    → WriteDone (in_room (length old) text) old (Ok n) new
unfolding in_room
laid_done text old e h f = rw (le-ltb (length old) (length text) h, e, f) (accepted-done text old)

-- the same, as it is copied
pub copied_done : {copied : List ℕ} (text old : List ℕ) → copied ≡ text → length text ≤ length old
    → WriteDone (in_room (length old) text) old (Ok (length text)) (copied ++ drop (length text) old)
unfolding laid
copied_done text old e h = laid_done text old refl h (ap (λ (front : List ℕ). front ++ drop (length text) old) e)

-- one verdict for another
pub same-done : {v w : Verdict (List ℕ)} {old new : List ℕ} {a : Result ℕ Refusal} → v ≡ w → WriteDone w old a new → WriteDone v old a new
same-done e w = rw e w

-- a line put straight into the buffer
pub put_done : {l old new : List ℕ} {r : ℕ} → Put old 0 l new r → length l ≤ length old → WriteDone (in_room (length old) l) old (Ok r) new
put_done {l} {old} h s = laid_done l old (front_length h s) s (front-laid h s)

-- a line put into one of its own, and stored from there
pub stored_done : {l empty line old new : List ℕ} {n : ℕ} {a : Result ℕ Refusal} → length line ≡ length empty → Put empty 0 l line n
    → length l ≤ length empty → WriteDone (in_room (length old) (take n line)) old a new → WriteDone (in_room (length old) l) old a new
stored_done kept h s w = rw (← front-line h s) w

-- ---- the verdicts

module _ (x y z : ℤ) (room : ℕ) where
  pub beyond : (in_range x && (in_range y && in_range z)) ≡ false → write_vertex_verdict x y z room ≡ refused (refuse fault.Range 1)
  unfolding write_vertex_verdict
  beyond h = rw h

  pub within : (in_range x && (in_range y && in_range z)) ≡ true → write_vertex_verdict x y z room ≡ in_room room (closed (vertex_line x y z))
  unfolding write_vertex_verdict
  within h = rw h

module _ (r : List ℕ) (room : ℕ) where
  pub faulty : (f : Fault) → record_finding vertex_limit r ≡ Err f → write_element_verdict r room ≡ refused (refuse f 1)
  unfolding write_element_verdict
  faulty f h = rw h

  pub faultless : record_finding vertex_limit r ≡ Ok tt → write_element_verdict r room ≡ in_room room (closed (element_line r))
  unfolding write_element_verdict
  faultless h = rw h

module _ (v e room : ℕ) where
  pub many : vertex_limit < v ⊎ (v ≤ vertex_limit × tetrahedron_limit < e) → write_end_verdict v e room ≡ refused (refuse fault.Many 0)
  unfolding write_end_verdict
  many (inl h) = rw (lt-ltb vertex_limit v h)
  many (inr h) = rw (le-ltb vertex_limit v h.0, lt-ltb tetrahedron_limit e h.1)

  pub few_of_both : v ≤ vertex_limit → e ≤ tetrahedron_limit → write_end_verdict v e room ≡ in_room room (closed (end_line v e))
  unfolding write_end_verdict
  few_of_both few h = rw (le-ltb vertex_limit v few, le-ltb tetrahedron_limit e h)
