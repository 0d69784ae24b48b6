-- Laws of the contract of converting: a refusal that leaves the output alone, and a text that is stored where there is room.
-- Assumes nothing.
use mathlib.Core.Path.{◌≡◌, refl, sym}
use mathlib.Core.List.{List, ◌++◌}
use Prim.Native.Nat.{ℕ, ◌≤◌, ◌<◌}
use lib.ListN.{length, take, drop}
use borrow.Author.Tests.{lt-ltb, le-ltb}
use Rattle.laws.specs.Lent.{laid}
use Rattle.laws.proofs.LentLaws.{laid_none}
use Rattle.faults.specs.Refusals.{Verdict, accepted, refused, refuse}
use Rattle.faults.specs.declared.Refusal.{Refusal}
use Rattle.faults.specs.declared.Fault.TheVariants as fault
use Rattle.writing.specs.Written.{in_room}
use Rattle.std.specs.Prelude.{Ok, Err}
use Rattle.converting.specs.Converting.{convert_verdict, Left}
use Rattle.converting.specs.ConversionLoops.{Put}
use Rattle.converting.proofs.PutTextLaws.{take-laid}

-- a refusal, and the output as it was
pub left_refused : (old : List ℕ) {r x : Refusal} {v : Verdict (List ℕ)} → v ≡ refused r → x ≡ r → Left v old (Err x) old
unfolding convert_verdict
left_refused old e f = rw (e, f) (record { answer = refl; output = sym (laid_none old) })

-- a text's length, and the text with what stood behind it
pub left-done : (text old : List ℕ) → Left (accepted text) old (Ok (length text)) (laid text old)
unfolding convert_verdict
left-done text old = record { answer = refl; output = refl }

-- the text in memory is what was put there
pub put_taken : {m : ℕ} {text old new : List ℕ} {r : ℕ} → Put m text old r new → take r new ≡ text
put_taken {m} {text} {old} p = rw (p.count, p.memory) (take-laid text old)

module _ {m : ℕ} {text memory memory' : List ℕ} {n : ℕ} (p : Put m text memory n memory') (old : List ℕ) where
  pub put_count : n ≡ length (take n memory')
  put_count = rw (put_taken p) p.count

  -- ROOM, and the output as it was
  pub left_room : {x : Refusal} → length old < n → x ≡ refuse fault.Room 0 → Left (in_room (length old) text) old (Err x) old
  unfolding in_room
  left_room h = left_refused old (rw (lt-ltb (length old) (length text) (rw p.count at h)))

  -- a text that there is room for
  pub left_stored : {front : List ℕ} → n ≤ length old → front ≡ take n memory' → Left (in_room (length old) text) old (Ok n) (front ++ drop n old)
  unfolding in_room laid
  left_stored h e = rw (le-ltb (length old) (length text) (rw p.count at h), e, put_taken p, p.count) (left-done text old)
