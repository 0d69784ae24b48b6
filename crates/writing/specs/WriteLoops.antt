-- What the private functions of writing say: bytes put into a lent line. No promise of the room speaks of them;
-- proofs/PutLaws.antt says that a line put from the front, where there is room, is laid into the lent memory.
use Rattle.std.specs.Prelude.{ℕ, ◌+◌, ◌≤◌, ◌≡◌, List, length}
use Rattle.std.specs.Fn.{FnOnceReturnsAtMut, Once}
use Rattle.std.specs.Borrow.{MutBor}
use Rattle.laws.specs.Lent.{placed}

-- how long a line is at most
abbrev pub capacity : ℕ
capacity = 48

-- where there is room for l from `at` on: l stands there, all else is as it was, and r is the index behind it
pub record Put (old : List ℕ) (at : ℕ) (l new : List ℕ) (r : ℕ) : Type 0 where
  pub line : at + length l ≤ length old → new ≡ placed old at l
  pub next : at + length l ≤ length old → r ≡ at + length l

-- a call of put puts l from the front of the memory that it is given
abbrev pub PutsLine : {F : Type 0} → Once F (MutBor (List ℕ) × Unit {0}) (ℕ × (MutBor (List ℕ) × Unit {0})) → F → List ℕ → Type 0
PutsLine g put l = (old new : List ℕ) (r : ℕ) → FnOnceReturnsAtMut g put old r new → Put old 0 l new r
