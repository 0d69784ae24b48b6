-- What is promised of the blocks of a table, in the words of specs/ alone. A reader starts here.
-- Assumes nothing.
use mathlib.Core.Path.{◌≡◌, sym, ap, ◌∙◌}
use mathlib.Core.List.{List, [], ◌∷◌, map}
use Prim.Native.Nat.{ℕ, ◌≤◌}
use lib.Dec.{T}
use lib.ListN.{length, take}
use Rattle.std.specs.Prelude.{Result, Ok, Err}
use Rattle.limits.specs.Limits.{element_limit, tetrahedron_limit}
use Rattle.laws.specs.Words.{every}
use Rattle.faults.specs.declared.Refusal.{Refusal}
use Rattle.faults.specs.Refusals.{accepted, refused}
use Rattle.faults.proofs.Theorems.{answer_tells_verdict}
use Rattle.solids.specs.Solids.{Element}
use Rattle.solids.specs.Cut.{cut_mesh}
use Rattle.tets.specs.Tets.{keyed}
use Rattle.judging.specs.Judge.{judged}
use Rattle.blocks.specs.Blocks.{keys_of, sizes_of, numbered, blocks_verdict, BlocksDone, BlocksCut}
use Rattle.blocks.proofs.BlocksAnswerLaws as A
use Rattle.blocks.proofs.CutNumberLaws as N

-- ---- uniqueness: two answers, and two pairs of arrays, that the contract allows are equal

tells_blocks : (r s : Result ℕ Refusal) → blocks_verdict r ≡ blocks_verdict s → r ≡ s
tells_blocks (Ok c) (Ok d) e = let z : c ≡ d = cc in ap Ok z
tells_blocks (Ok c) (Err y) e = cc
tells_blocks (Err x) (Ok d) e = cc
tells_blocks (Err x) (Err y) e = let z : x ≡ y = cc in ap Err z

pub blocks_unique : (v n : ℕ) (t keys sizes : List ℕ) (r s : Result ℕ Refusal) (keys' keys'' sizes' sizes'' : List ℕ)
    → BlocksDone v n t keys sizes r keys' sizes' → BlocksDone v n t keys sizes s keys'' sizes'' → (r ≡ s) × (keys' ≡ keys'') × (sizes' ≡ sizes'')
blocks_unique v n t keys sizes r s keys' keys'' sizes' sizes'' p q = (
  tells_blocks r s (answer_tells_verdict (0 ∷ []) (blocks_verdict r) (blocks_verdict s) (p.answer ∙ sym q.answer)),
  p.keys_laid ∙ sym q.keys_laid,
  p.sizes_laid ∙ sym q.sizes_laid,
)

-- ---- what an answer tells of its table

pub blocks_refused : {v n : ℕ} {t keys sizes keys' sizes' : List ℕ} {x : Refusal} → BlocksDone v n t keys sizes (Err x) keys' sizes' → judged v n t ≡ refused x
blocks_refused = A.blocks_refused

pub blocks_cut : {v n : ℕ} {t keys sizes keys' sizes' : List ℕ} {r : ℕ} → BlocksDone v n t keys sizes (Ok r) keys' sizes' → BlocksCut v n t keys sizes r keys' sizes'
blocks_cut = A.blocks_cut

-- the count, both arrays' lengths, and what stands in their front
module _ {v n : ℕ} {t keys sizes : List ℕ} {r : ℕ} {keys' sizes' : List ℕ} (b : BlocksCut v n t keys sizes r keys' sizes') where
  pub keys_few : r ≤ tetrahedron_limit
  keys_few = A.keys_few b

  pub keys_kept : tetrahedron_limit ≤ length keys → length keys' ≡ length keys
  keys_kept = A.keys_kept b

  pub sizes_kept : element_limit ≤ length sizes → length sizes' ≡ length sizes
  sizes_kept = A.sizes_kept b

  pub keys_first : take r keys' ≡ keys_of b.elements
  keys_first = A.keys_first b

  pub sizes_first : take n sizes' ≡ sizes_of b.elements
  sizes_first = A.sizes_first b

-- ---- what the keys of an accepted table tell

-- its tetrahedra have vertex numbers from 1 to the vertex count
pub accepted-numbered : (v n : ℕ) (t : List ℕ) (es : List Element) → judged v n t ≡ accepted es → T (every (numbered v) (cut_mesh es))
accepted-numbered = N.accepted-numbered

-- and their keys give them back
pub keys_tell : (v n : ℕ) (t : List ℕ) (es : List Element) → judged v n t ≡ accepted es → map keyed (keys_of es) ≡ cut_mesh es
keys_tell = N.keys_tell
