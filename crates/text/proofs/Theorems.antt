-- What reading promises, in the words of specs/. A reader starts here.
--   read_unique         two answers and two pairs of tables that the contract allows are equal
--   refused_keeps       a refused file leaves both tables as they were
--   accepted_stores     an accepted file leaves its records, and behind them what stood there
--   accepted_counts     its counts are those of its records, within the limits and the lent tables
--   accepted_no_comma   an accepted file holds no comma anywhere
-- Assumes nothing.
use Prim.Native.Nat.{ℕ}
use mathlib.Core.Path.{◌≡◌, sym, ◌∙◌}
use mathlib.Core.List.{List, [], ◌∷◌}
use lib.IntN.{ℤ}
use Rattle.std.specs.Prelude.{Result, Ok, Err}
use Rattle.limits.specs.Limits.{comma}
use Rattle.laws.specs.Lent.{laid}
use Rattle.laws.proofs.PieceLaws.{Free}
use Rattle.laws.proofs.LentLaws.{laid_none}
use Rattle.faults.proofs.Theorems.{answer_tells_verdict}
use Rattle.faults.specs.declared.Refusal.{Refusal}
use Rattle.format.specs.File.{start, lines_of, file_verdict}
use Rattle.format.specs.Records.{vertex_records, element_records, records_from, stored_vertices, stored_elements}
use Rattle.format.proofs.Theorems.{Counted}
use Rattle.format.proofs.Theorems as format
use Rattle.text.specs.Reading.{verdict_of, rooms_of, ReadDone}
use Rattle.text.specs.declared.ReadCounts.{ReadCounts}

-- ---- two answers

-- two answers that stand for one verdict are one answer
verdict_tells_answer : (r s : Result ReadCounts Refusal) → verdict_of r ≡ verdict_of s → r ≡ s
unfolding verdict_of
verdict_tells_answer (Ok c) (Ok d) e =
    let p : c.vertices ≡ d.vertices = cc in
    let q : c.elements ≡ d.elements = cc in
    λ i. Ok (record { vertices = p i; elements = q i })
verdict_tells_answer (Ok c) (Err s) e = cc
verdict_tells_answer (Err r) (Ok d) e = cc
verdict_tells_answer (Err r) (Err s) e = cc

module _ (file : List ℕ) (vertices : List ℤ) (elements : List ℕ) where
  -- the contract fixes the verdict that the answer stands for
  verdict-is : (r : Result ReadCounts Refusal) (v : List ℤ) (e : List ℕ) → ReadDone file vertices elements r v e
      → verdict_of r ≡ file_verdict (rooms_of vertices elements) file
  verdict-is r v e d = answer_tells_verdict (0 ∷ 0 ∷ []) _ _ d.answer

  pub read_unique : (r s : Result ReadCounts Refusal) (v w : List ℤ) (e f : List ℕ)
      → ReadDone file vertices elements r v e → ReadDone file vertices elements s w f
      → (r ≡ s) × (v ≡ w) × (e ≡ f)
  read_unique r s v w e f d k = (
    verdict_tells_answer r s (verdict-is r v e d ∙ sym (verdict-is s w f k)),
    d.vertex_table ∙ sym k.vertex_table,
    d.element_table ∙ sym k.element_table,
  )

  -- ---- a refused file

  pub refused_keeps : (r : Refusal) (v : List ℤ) (e : List ℕ) → ReadDone file vertices elements (Err r) v e → (v ≡ vertices) × (e ≡ elements)
  unfolding verdict_of stored_vertices stored_elements
  refused_keeps r v e d =
      let q = verdict-is (Err r) v e d in
      (d.vertex_table ∙ rw (← q) (laid_none vertices), d.element_table ∙ rw (← q) (laid_none elements))

  -- ---- an accepted file

  pub accepted_stores : (counts : ReadCounts) (v : List ℤ) (e : List ℕ) → ReadDone file vertices elements (Ok counts) v e
      → (v ≡ laid (records_from vertex_records start (lines_of file)) vertices)
      × (e ≡ laid (records_from element_records start (lines_of file)) elements)
  unfolding verdict_of stored_vertices stored_elements
  accepted_stores counts v e d =
      let q = verdict-is (Ok counts) v e d in
      (d.vertex_table ∙ rw (← q), d.element_table ∙ rw (← q))

  pub accepted_counts : (counts : ReadCounts) (v : List ℤ) (e : List ℕ) → ReadDone file vertices elements (Ok counts) v e
      → Counted (rooms_of vertices elements) file counts.vertices counts.elements
  unfolding verdict_of
  accepted_counts counts v e d =
      format.accepted_counts (rooms_of vertices elements) file counts.vertices counts.elements (sym (verdict-is (Ok counts) v e d))

  -- b stands in no place of a text: `Free b`
  pub accepted_no_comma : (counts : ReadCounts) (v : List ℤ) (e : List ℕ) → ReadDone file vertices elements (Ok counts) v e → Free comma file
  unfolding verdict_of
  accepted_no_comma counts v e d = format.accepted_no_comma (rooms_of vertices elements) file _ (sym (verdict-is (Ok counts) v e d))
