-- A text cut at a byte. Lines are the pieces at byte 10, fields the pieces at byte 32.
use Rattle.std.specs.Prelude.{ℕ, ◌+◌, ◌≤◌, ◌<◌, ◌≡◌, cond, List, [], ◌∷◌, length, take, drop, eqb}

-- `piece l p`: l stands before a separator, and p is what the text after that separator is cut into; `rest l`: no separator stands in l
pub data Pieces : Type 0 where
  rest : List ℕ → Pieces
  piece : List ℕ → Pieces → Pieces

-- a byte more in front of the first piece
unfoldable pub push : ℕ → Pieces → Pieces
push x (rest l) = rest (x ∷ l)
push x (piece l p) = piece (x ∷ l) p

-- the text cut at each byte b
unfoldable pub split : ℕ → List ℕ → Pieces
split b [] = rest []
split b (x ∷ xs) = cond (eqb x b) (piece [] (split b xs)) (push x (split b xs))

-- r is where b stands first in l, or l's length where it does not
pub record FirstAt (b : ℕ) (l : List ℕ) (r : ℕ) : Type 0 where
  pub high : r ≤ length l
  pub hit : r < length l → split b l ≡ piece (take r l) (split b (drop (r + 1) l))
  pub miss : length l ≤ r → split b l ≡ rest l
