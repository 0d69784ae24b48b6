-- What reading an input can say. No contract can name the bytes that a read of the system gives, but an input whose bytes are known is read to the byte.
use Rattle.std.specs.Prelude.{ℕ, zero, suc, ◌+◌, ◌≤◌, ◌≡◌, List, length, take, Option, Some, None, Result, Ok, Err, IfSome, IfOk}
use Rattle.limits.specs.Limits.{file_limit}

-- one byte past 65,536, so that LONG is seen
abbrev pub input_room : ℕ
input_room = file_limit + 1

module _ {E : Type 0} where
  -- what the answer of a read means where `at` bytes were read before it: bytes, the end, or that it failed, and a failure is never the end
  abbrev pub turn_of : Result ℕ E → ℕ → Result (Option ℕ) E
  turn_of (Ok zero) at = Ok None
  turn_of (Ok (suc n)) at = Ok (Some (at + suc n))
  turn_of (Err e) at = Err e

  -- as many bytes as were read stand in the room
  abbrev pub InputWithin : ℕ → Result ℕ E → Type 0
  InputWithin room r = IfOk r (λ n. n ≤ room)

  -- where the file is known, its first bytes stand in the room: all of them, or as many as there is room for
  abbrev pub InputReads : Option (List ℕ) → Result ℕ E → List ℕ → Type 0
  InputReads known r room = IfOk r (λ n. IfSome known (λ file. take n room ≡ take (length room) file))
