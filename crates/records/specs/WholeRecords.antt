-- What callers know of a record without a fault, and what private functions ask of the records that they are handed;
-- proofs/RecordLaws.antt says that a record without a fault is so.
use Rattle.std.specs.Prelude.{Bool, ◌&&◌, ◌≡◌, List, ℕ, ◌*◌, ◌≤◌, ◌<◌, T, eqb, ltb, leb, length}
use Rattle.limits.specs.Limits.{element_limit, element_width}
use Rattle.laws.specs.Words.{every, distinct}
use Rattle.records.specs.Record.{kind_of, used_of, spare_of, is_kind, record_at}

-- a vertex number between 1 and a limit
abbrev pub is_number : ℕ → ℕ → Bool
is_number limit v = ltb 0 v && leb v limit

-- nine numbers, a kind, vertex numbers up to a limit, the unused ones zero, no vertex twice
pub record Faultless (limit : ℕ) (r : List ℕ) : Type 0 where
  pub wide : length r ≡ element_width
  pub kind : T (is_kind (kind_of r))
  pub inside : T (every (is_number limit) (used_of r))
  pub unused : T (every (eqb 0) (spare_of r))
  pub apart : T (distinct (used_of r))

-- nine numbers, a kind, and corners that are different vertices, none of them 0
pub record Whole (r : List ℕ) : Type 0 where
  pub wide : length r ≡ element_width
  pub kind : T (is_kind (kind_of r))
  pub apart : T (distinct (used_of r))
  pub positive : T (every (ltb 0) (used_of r))

-- n whole records, at most 1,024, stand in the table
pub record WholeTable (t : List ℕ) (n : ℕ) : Type 0 where
  pub few : n ≤ element_limit
  pub long : element_width * n ≤ length t
  pub whole : (k : ℕ) → k < n → Whole (record_at t k)
