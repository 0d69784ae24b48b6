-- Laws of bytes put into a lent line: nothing, a byte, two runs one after the other, and a line from the front.
-- Assumes nothing.
use Prim.Native.Nat.{ℕ, ◌+◌, ◌≤◌}
use native.Mathlib.Nat.{add-zero, zero-add}
use native.Mathlib.Omega.{arith}
use mathlib.Core.Path.{◌≡◌, refl, sym, ap, ◌∙◌}
use mathlib.Core.List.{List, [], ◌∷◌, ◌++◌}
use lib.ListN.{length, take, drop, set, length-append}
use lib.Seq.{take_at, length-take-le}
use Rattle.laws.specs.Lent.{laid, placed}
use Rattle.laws.proofs.LentLaws.{placed-none, placed-placed, length-placed, placed-sets, placed-laid}
use Rattle.writing.specs.WriteLoops.{Put}

pub put_none : (old : List ℕ) (at : ℕ) → Put old at [] old at
put_none old at = record { line = λ h. sym (placed-none old at); next = λ h. sym (add-zero at) }

-- ---- a byte

module _ (old : List ℕ) (at x : ℕ) where
  pub put_byte : Put old at (x ∷ []) (set old at x) (at + 1)
  put_byte = record { line = λ h. placed-sets old at (x ∷ []) h; next = λ h. refl }

  pub put_full : length old ≤ at → Put old at (x ∷ []) old at
  put_full l = record { line = λ h. absurd (omega arith); next = λ h. absurd (omega arith) }

-- ---- one after the other

module _ {old mid new l m : List ℕ} {at r s : ℕ} (h : Put old at l mid r) (k : Put mid r m new s) where
  module _ (room : at + length (l ++ m) ≤ length old) where
    room_before : at + length l ≤ length old
    room_before = omega (arith, length-append l m)

    room-behind : r + length m ≤ length mid
    room-behind =
        omega
        (arith, length-append l m, h.next room_before, ap length (h.line room_before), length-placed old at l room_before)

    line_of_two : new ≡ placed old at (l ++ m)
    line_of_two =
        k.line room-behind
        ∙ ap (λ (x : List ℕ). placed x r m) (h.line room_before)
        ∙ ap (λ (n : ℕ). placed (placed old at l) n m) (h.next room_before)
        ∙ placed-placed old at l room_before m

    next_of_two : s ≡ at + length (l ++ m)
    next_of_two = omega (arith, length-append l m, h.next room_before, k.next room-behind)

  pub put_two : Put old at (l ++ m) new s
  put_two = record { line = λ room. line_of_two room; next = λ room. next_of_two room }

-- ---- a line from the front, where there is room for it

module _ {old new l : List ℕ} {r : ℕ} (h : Put old 0 l new r) (room : length l ≤ length old) where
  from_front : 0 + length l ≤ length old
  from_front = omega arith

  pub front-laid : new ≡ laid l old
  front-laid = h.line from_front ∙ placed-laid old l

  pub front_length : r ≡ length l
  front_length = h.next from_front ∙ zero-add (length l)

  pub front-line : take r new ≡ l
  unfolding laid
  front-line = ap (take r) front-laid ∙ take_at l (drop (length l) old) r (sym front_length)

-- ---- a line put into one of its own, and shared up to its end

module _ {own new l : List ℕ} {r : ℕ} (kept : length new ≡ length own) (h : Put own 0 l new r) (room : length l ≤ length own) where
  pub own-short : r ≤ length new
  own-short = omega (arith, front_length h room)

  pub own-count : r ≡ length (take r new)
  own-count = sym (length-take-le r new own-short)
