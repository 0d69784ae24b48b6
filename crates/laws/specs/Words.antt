-- Short words for lists of anything and for lists of numbers. Nothing here is about meshes.
-- `keep` the members that pass the test, in their order; `some` member passes it; `every` member passes it; `gather` the lists that f makes of the
-- members, one after the other
pub use Rattle.std.specs.List.{filter as keep, list_any as some, list_all as every, flat_map as gather}
use Rattle.std.specs.Prelude.{Bool, true, cond, not, ◌&&◌, List, [], ◌∷◌, ℕ, ◌+◌, min, eqb}

module _ {A : Type 0} where
  -- how many members pass the test
  abbrev pub count : (A → Bool) → List A → ℕ
  count t [] = 0
  count t (x ∷ xs) = cond (t x) 1 0 + count t xs

-- v is among the numbers
abbrev pub among : ℕ → List ℕ → Bool
among v = some (eqb v)

-- no number stands twice
abbrev pub distinct : List ℕ → Bool
distinct [] = true
distinct (v ∷ vs) = not (among v vs) && distinct vs

-- the lowest of the numbers
abbrev pub lowest : List ℕ → ℕ
lowest [] = 0
lowest (v ∷ []) = v
lowest (v ∷ (w ∷ ws)) = min v (lowest (w ∷ ws))
