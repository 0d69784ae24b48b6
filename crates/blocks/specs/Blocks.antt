-- The cut of a table before anything is stored: it is judged; then the keys of its tetrahedra, element by element, and how many each element has.
use Rattle.std.specs.Prelude.{◌≡◌, Bool, List, [], ◌∷◌, map, ℕ, length, Result, Ok, Err}
use Rattle.laws.specs.Words.{every}
use Rattle.laws.specs.Lent.{laid}
use Rattle.faults.specs.declared.Refusal.{Refusal}
use Rattle.faults.specs.Refusals.{Verdict, accepted, refused, and_then, records_of, answer_of}
use Rattle.solids.specs.Solids.{Vertex, Tet, of_tet, Element}
use Rattle.solids.specs.Cut.{cut, cut_mesh}
use Rattle.records.specs.WholeRecords.{is_number}
use Rattle.tets.specs.Tets.{key_of}
use Rattle.judging.specs.Judge.{judged}

-- the keys of the tetrahedra of a cut, in their order
unfoldable pub keys_of : List Element → List ℕ
keys_of es = map key_of (cut_mesh es)

-- how many tetrahedra each element has
unfoldable pub sizes_of : List Element → List ℕ
sizes_of es = map (λ e. length (cut e)) es

-- a tetrahedron whose vertex numbers lie from 1 to a count
unfoldable pub numbered : ℕ → Tet Vertex → Bool
numbered v t = every (is_number v) (of_tet t)

-- the answer as a verdict: its one value is the number of tetrahedra
abbrev pub blocks_verdict : Result ℕ Refusal → Verdict (List ℕ)
blocks_verdict (Ok n) = accepted (n ∷ [])
blocks_verdict (Err r) = refused r

-- the answer, and both arrays afterwards, for every two counts, every table and every two arrays
pub record BlocksDone (v n : ℕ) (t keys sizes : List ℕ) (r : Result ℕ Refusal) (keys' sizes' : List ℕ) : Type 0 where
  pub answer :
      answer_of (0 ∷ []) (blocks_verdict r) ≡ answer_of (0 ∷ []) (and_then (judged v n t) λ es. accepted (length (cut_mesh es) ∷ []))
  pub keys_laid : keys' ≡ laid (records_of keys_of (judged v n t)) keys
  pub sizes_laid : sizes' ≡ laid (records_of sizes_of (judged v n t)) sizes

-- what an answer `Ok` tells: the table is accepted, and count, keys and sizes are those of its elements
pub record BlocksCut (v n : ℕ) (t keys sizes : List ℕ) (r : ℕ) (keys' sizes' : List ℕ) : Type 0 where
  pub elements : List Element
  pub accepts : judged v n t ≡ accepted elements
  pub count : r ≡ length (cut_mesh elements)
  pub keys_laid : keys' ≡ laid (keys_of elements) keys
  pub sizes_laid : sizes' ≡ laid (sizes_of elements) sizes
