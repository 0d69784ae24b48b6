-- What an element record of an accepted file is.
use Rattle.std.specs.Prelude.{ℕ, suc, ◌*◌, ◌≤◌, ◌≡◌, List, T, eqb, length, take, drop}
use Rattle.limits.specs.Limits.{element_width}
use Rattle.laws.specs.Words.{every}
use Rattle.records.specs.Record.{kind_of, used_of, spare_of, is_kind}
use Rattle.records.specs.WholeRecords.{is_number}

-- nine numbers, a kind, vertex numbers up to a limit, the unused ones zero; a vertex may stand in it twice
pub record Stored (limit : ℕ) (r : List ℕ) : Type 0 where
  pub wide : length r ≡ element_width
  pub kind : T (is_kind (kind_of r))
  pub inside : T (every (is_number limit) (used_of r))
  pub unused : T (every (eqb 0) (spare_of r))

-- P holds of each whole record of a table
abbrev pub EachRecord : {A : Type 0} → ℕ → (List A → Type 0) → List A → Type 0
EachRecord w P l = (i : ℕ) → w * suc i ≤ length l → P (take w (drop (w * i) l))
