-- From the judgement and the filled blocks to the answer, and from the answer back; and the arrays of an accepted table.
-- Assumes nothing.
use mathlib.Core.Path.{◌≡◌, refl, sym, ap, ◌∙◌}
use mathlib.Core.List.{List, [], ◌∷◌}
use Prim.Native.Nat.{ℕ, ◌≤◌}
use native.Mathlib.Omega.{arith}
use lib.ListN.{length, take, drop, length-map}
use lib.Seq.{take_at}
use Rattle.std.specs.Prelude.{Result, Ok, Err}
use Rattle.limits.specs.Limits.{element_limit, tetrahedron_limit}
use Rattle.laws.specs.Lent.{laid}
use Rattle.laws.proofs.LentLaws.{laid_none, placed-laid, length-placed}
use Rattle.faults.specs.declared.Refusal.{Refusal}
use Rattle.faults.specs.Refusals.{Verdict, accepted, refused, and_then, answer_of}
use Rattle.faults.proofs.Theorems.{answer_tells_verdict}
use Rattle.solids.specs.Solids.{Element}
use Rattle.solids.specs.Cut.{cut, cut_mesh}
use Rattle.records.proofs.Theorems.{first-length}
use Rattle.tets.specs.Tets.{key_of}
use Rattle.judging.specs.Judge.{judged}
use Rattle.judging.proofs.Theorems.{accepted-elements, accepted-few, accepted_tetrahedra}
use Rattle.blocks.specs.Blocks.{keys_of, sizes_of, blocks_verdict, BlocksDone, BlocksCut}
use Rattle.blocks.specs.BlockLoops.{Filled}

module _ {v n : ℕ} {t keys sizes : List ℕ} where
  -- refused: nothing is written
  pub nothing_cut : {x : Refusal} → judged v n t ≡ refused x → BlocksDone v n t keys sizes (Err x) keys sizes
  nothing_cut e = record {
    answer = rw e;
    keys_laid = rw e (sym (laid_none keys));
    sizes_laid = rw e (sym (laid_none sizes));
  }

  -- accepted: the blocks of all elements
  pub all_cut : {es : List Element} → judged v n t ≡ accepted es → {r : ℕ} {keys' sizes' : List ℕ} → Filled es keys sizes r keys' sizes' → BlocksDone v n t keys sizes (Ok r) keys' sizes'
  all_cut e f = record {
    answer = rw e (ap (λ (m : ℕ). answer_of (0 ∷ []) (accepted (m ∷ []))) f.count);
    keys_laid = rw e f.keys_laid;
    sizes_laid = rw e f.sizes_laid;
  }

-- ---- what an answer tells

abbrev wanted : Verdict (List Element) → Verdict (List ℕ)
wanted j = and_then j λ es. accepted (length (cut_mesh es) ∷ [])

module _ {v n : ℕ} {t keys sizes keys' sizes' : List ℕ} where
  verdict : {r : Result ℕ Refusal} → BlocksDone v n t keys sizes r keys' sizes' → blocks_verdict r ≡ wanted (judged v n t)
  verdict {r} h = answer_tells_verdict (0 ∷ []) (blocks_verdict r) (wanted (judged v n t)) h.answer

  pub blocks_refused : {x : Refusal} → BlocksDone v n t keys sizes (Err x) keys' sizes' → judged v n t ≡ refused x
  blocks_refused {x} h = go (judged v n t) (verdict h)
    where
      go : (j : Verdict (List Element)) → refused x ≡ wanted j → j ≡ refused x
      go (accepted es) e = cc
      go (refused y) e = let z : x ≡ y = cc in ap refused (sym z)

  pub blocks_cut : {r : ℕ} → BlocksDone v n t keys sizes (Ok r) keys' sizes' → BlocksCut v n t keys sizes r keys' sizes'
  blocks_cut {r} h = go (judged v n t) refl (verdict h)
    where
      go : (j : Verdict (List Element)) → judged v n t ≡ j → accepted (r ∷ []) ≡ wanted j → BlocksCut v n t keys sizes r keys' sizes'
      go (accepted es) p e = record {
        elements = es;
        accepts = p;
        count = cc;
        keys_laid = rw p at h.keys_laid;
        sizes_laid = rw p at h.sizes_laid;
      }
      go (refused y) p e = cc

-- ---- how long the arrays are

-- what is laid where it has room leaves the length
length-laid : (a l : List ℕ) → length a ≤ length l → length (laid a l) ≡ length l
length-laid a l h = ap length (sym (placed-laid l a)) ∙ length-placed l 0 a (omega arith)

module _ {v n : ℕ} {t keys sizes : List ℕ} {r : ℕ} {keys' sizes' : List ℕ} (b : BlocksCut v n t keys sizes r keys' sizes') where
  pub keys_many : length (keys_of b.elements) ≡ r
  unfolding keys_of
  keys_many = length-map (cut_mesh b.elements) key_of ∙ sym b.count

  pub sizes_many : length (sizes_of b.elements) ≡ length b.elements
  unfolding sizes_of
  sizes_many = length-map b.elements (λ e. length (cut e))

  -- as many keys as the limit allows, and all of them are there
  pub keys_few : r ≤ tetrahedron_limit
  keys_few = omega (arith, b.count, accepted_tetrahedra v n t b.elements b.accepts)

  pub keys_kept : tetrahedron_limit ≤ length keys → length keys' ≡ length keys
  keys_kept h = ap length b.keys_laid ∙ length-laid (keys_of b.elements) keys (omega (arith, keys_few, keys_many))

  pub sizes_kept : element_limit ≤ length sizes → length sizes' ≡ length sizes
  sizes_kept h =
      ap length b.sizes_laid
      ∙ length-laid (sizes_of b.elements) sizes (omega (arith, sizes_many, accepted-few v n t b.elements b.accepts))

  -- the first of them are those of the cut
  pub keys_first : take r keys' ≡ keys_of b.elements
  unfolding laid
  keys_first = ap (take r) b.keys_laid ∙ take_at (keys_of b.elements) (drop (length (keys_of b.elements)) keys) r keys_many

  pub sizes_first : take n sizes' ≡ sizes_of b.elements
  unfolding laid
  sizes_first =
      ap (take n) b.sizes_laid
      ∙ take_at (sizes_of b.elements) (drop (length (sizes_of b.elements)) sizes) n
      (sizes_many ∙ ap length (accepted-elements v n t b.elements b.accepts) ∙ first-length t n)
