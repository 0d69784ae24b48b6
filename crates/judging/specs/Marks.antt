-- The marks of the elements that are met while the chains of one element's vertices are walked; proofs/ChainLaws.antt says that they find the page's misfits.
use Rattle.std.specs.Prelude.{◌≡◌, Bool, true, false, List, ℕ, ◌+◌, ◌*◌, ◌/◌, ◌≤◌, ◌<◌, length, get_or}
use Rattle.limits.specs.Limits.{element_limit, vertex_limit, element_width}
use Rattle.records.specs.WholeRecords.{WholeTable}
use Rattle.judging.specs.declared.chains.Mark.{Mark}
use Rattle.judging.specs.declared.chains.Mark.TheVariants.{Unmet, MetOnce, Fits}
use Rattle.judging.specs.Judge.{pair_fits, misfit}
use Rattle.judging.specs.Chained.{holds}

-- an element with this mark was met
abbrev pub is_met : Mark → Bool
is_met Unmet = false
is_met MetOnce = true
is_met Fits = true

-- element i was met
abbrev pub met : List Mark → ℕ → Bool
met marks i = is_met (get_or marks i Unmet)

-- a mark for each element; those that are marked so fit element j
pub record Seen (t : List ℕ) (j : ℕ) (marks : List Mark) : Type 0 where
  pub wide : length marks ≡ element_limit
  pub fit : (i : ℕ) → get_or marks i Unmet ≡ Fits → pair_fits t i j ≡ true

-- who was met stays met
abbrev pub Grown : List Mark → List Mark → Type 0
Grown old new = (i : ℕ) → met old i ≡ true → met new i ≡ true

-- elements i and j meet
pub record Meeting (t : List ℕ) (i j : ℕ) (marks : List Mark) : Type 0 where
  pub table : WholeTable t (j + 1)
  pub early : i < j
  pub seen : Seen t j marks

-- element i is met, and fits where it was met before; or it does not fit
pub record Met (t : List ℕ) (i j : ℕ) (old new : List Mark) (r : Bool) : Type 0 where
  pub seen : Seen t j new
  pub grown : Grown old new
  pub marked : r ≡ true → met new i ≡ true
  pub again : r ≡ true → met old i ≡ true → pair_fits t i j ≡ true
  pub bad : r ≡ false → pair_fits t i j ≡ false

-- the chain of a vertex is to be walked
pub record Walking (t : List ℕ) (j v : ℕ) (marks : List Mark) : Type 0 where
  pub table : WholeTable t (j + 1)
  pub low : v ≤ vertex_limit
  pub seen : Seen t j marks

-- each element before j that holds the vertex is met, and fits where it was met before; or j has a misfit
pub record Walked (t : List ℕ) (j v : ℕ) (old new : List Mark) (r : Bool) : Type 0 where
  pub seen : Seen t j new
  pub grown : Grown old new
  pub marked : r ≡ true → (x : ℕ) → x < element_width * j → holds t v x ≡ true → met new (x / element_width) ≡ true
  pub again : r ≡ true → (x : ℕ) → x < element_width * j → holds t v x ≡ true → met old (x / element_width) ≡ true → pair_fits t (x / element_width) j ≡ true
  pub bad : r ≡ false → 0 < misfit t j
