-- Shapes that only the functions of the private module counting want; proofs/PartedLaws.antt says that an accepted table's blocks are so, and
-- proofs/SignCountLaws.antt what the counts have to do with the page's definitions.
use Rattle.std.specs.Prelude.{◌≡◌, Bool, not, ◌&&◌, List, [], ◌∷◌, ℕ, ◌+◌, ◌≤◌, ◌<◌, T, eqb, ℤ, length, take, drop, get_or}
use Rattle.std.specs.declared.cmp.Ordering.{Ordering}
use Rattle.std.specs.declared.cmp.Ordering.TheVariants.{Less, Equal, Greater}
use Rattle.limits.specs.Limits.{element_limit, tetrahedron_limit}
use Rattle.laws.specs.Words.{count, every, gather}
use Rattle.volume.specs.Volume.{point_in_range, point_at}
use Rattle.solids.specs.Solids.{Vertex, Tet, of_tet}
use Rattle.tets.specs.Tets.{keyed}
use Rattle.signs.specs.declared.SignCounts.{SignCounts}
use Rattle.signs.specs.Signs.{is_positive, is_zero, is_negative, sound}

-- ---- blocks

-- tetrahedra parted into blocks of these sizes
unfoldable pub parted : List (Tet Vertex) → List ℕ → List (List (Tet Vertex))
parted ts [] = []
parted ts (s ∷ ss) = take s ts ∷ parted (drop s ts) ss

-- the sum of the sizes
abbrev pub total : List ℕ → ℕ
total [] = 0
total (s ∷ ss) = s + total ss

-- all four vertices of a tetrahedron are within the limits
unfoldable pub ranged_tet : List ℤ → Tet Vertex → Bool
ranged_tet table t = every (λ v. point_in_range (point_at table v)) (of_tet t)

-- at most six keys, of tetrahedra within the limits
pub record RangedBlock (table : List ℤ) (block : List ℕ) : Type 0 where
  pub few : length block ≤ 6
  pub ranged : (j : ℕ) → j < length block → T (ranged_tet table (keyed (get_or block j 0)))

-- at most 1,024 blocks, each of at most six, whose keys are there and are of tetrahedra within the limits
pub record RangedBlocks (table : List ℤ) (keys sizes : List ℕ) : Type 0 where
  pub few : length sizes ≤ element_limit
  pub small : (k : ℕ) → k < length sizes → get_or sizes k 0 ≤ 6
  pub room : total sizes ≤ length keys
  pub ranged : (j : ℕ) → j < total sizes → T (ranged_tet table (keyed (get_or keys j 0)))

-- positive, zero and negative tetrahedra of blocks, and unsound ones of these
unfoldable pub block_counts : List ℤ → List (List (Tet Vertex)) → List ℕ
block_counts table bs =
    let ts = gather (λ b. b) bs in
    count (is_positive table) ts ∷ count (is_zero table) ts ∷ count (is_negative table) ts ∷ count (λ b. not (sound table b)) bs ∷ []

-- ---- counts

-- one tetrahedron more, by how its volume compares with 0
abbrev pub with_sign : Ordering → SignCounts → SignCounts
with_sign Greater c = record { positive = c.positive + 1; zero = c.zero; negative = c.negative; unsound = c.unsound }
with_sign Equal c = record { positive = c.positive; zero = c.zero + 1; negative = c.negative; unsound = c.unsound }
with_sign Less c = record { positive = c.positive; zero = c.zero; negative = c.negative + 1; unsound = c.unsound }

-- each count is below six, so that one more of a block has room
pub record Few (c : SignCounts) : Type 0 where
  pub positive : c.positive < 6
  pub zero : c.zero < 6
  pub negative : c.negative < 6

-- the counts are those of these tetrahedra
pub record Tallied (table : List ℤ) (ts : List (Tet Vertex)) (c : SignCounts) : Type 0 where
  pub positive : c.positive ≡ count (is_positive table) ts
  pub zero : c.zero ≡ count (is_zero table) ts
  pub negative : c.negative ≡ count (is_negative table) ts

-- none is zero or negative
abbrev pub all_positive : SignCounts → Bool
all_positive c = eqb c.zero 0 && eqb c.negative 0

-- the four counts as a list
abbrev pub of_counts : SignCounts → List ℕ
of_counts c = c.positive ∷ c.zero ∷ c.negative ∷ c.unsound ∷ []

-- no sum is above the greatest number of tetrahedra
pub record FewSums (a b : SignCounts) : Type 0 where
  pub positive : a.positive + b.positive ≤ tetrahedron_limit
  pub zero : a.zero + b.zero ≤ tetrahedron_limit
  pub negative : a.negative + b.negative ≤ tetrahedron_limit
  pub unsound : a.unsound + b.unsound ≤ tetrahedron_limit

-- each count of the one and of the other, together
pub record Summed (a b r : SignCounts) : Type 0 where
  pub positive : r.positive ≡ a.positive + b.positive
  pub zero : r.zero ≡ a.zero + b.zero
  pub negative : r.negative ≡ a.negative + b.negative
  pub unsound : r.unsound ≡ a.unsound + b.unsound
