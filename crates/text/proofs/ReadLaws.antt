-- Reading as a whole: what the lines left in the reader's own tables, copied, meets the contract.
-- Assumes nothing.
use Prim.Native.Nat.{ℕ, ◌*◌, ◌≤◌}
use mathlib.Core.Path.{◌≡◌, sym, ap, ◌∙◌}
use mathlib.Core.List.{List, [], ◌∷◌, ◌++◌}
use lib.ListN.{length, take, drop}
use lib.Seq.{length-take-le}
use lib.IntN.{ℤ}
use Rattle.std.specs.Prelude.{Ok, Err}
use Rattle.limits.specs.Limits.{vertex_width, element_width}
use Rattle.laws.specs.Lent.{laid}
use Rattle.laws.proofs.LentLaws.{laid_none}
use Rattle.faults.specs.Refusals.{answer_of}
use Rattle.faults.specs.declared.Refusal.{Refusal}
use Rattle.format.specs.File.{file_verdict}
use Rattle.format.specs.Records.{stored_vertices, stored_elements}
use Rattle.format.proofs.AcceptedFileLaws.{file-fits}
use Rattle.text.specs.Reading.{verdict_of, rooms_of, ReadDone}
use Rattle.text.specs.declared.ReadCounts.{ReadCounts}
use Rattle.text.specs.ReadingLoops.{Kept}

-- n values copied to the front of a table are laid there
copied : {A : Type 0} (kept old front : List A) (n : ℕ) → n ≤ length kept → front ≡ take n kept → front ++ drop n old ≡ laid (take n kept) old
unfolding laid
copied kept old front n h e = rw (e, length-take-le n kept h)

module _ (file : List ℕ) (vertices : List ℤ) (elements : List ℕ) where
  module _ (counts : ReadCounts) (judged : verdict_of (Ok counts) ≡ file_verdict (rooms_of vertices elements) file) where
    -- the counts of an accepted file are within the lent tables
    pub rooms_kept : (vertex_width * counts.vertices ≤ length vertices) × (element_width * counts.elements ≤ length elements)
    unfolding verdict_of
    rooms_kept =
        let f = file-fits (rooms_of vertices elements) file (counts.vertices ∷ counts.elements ∷ []) (sym judged) in
        let c = f.counts in
        let p : counts.vertices ≡ f.final.vertices = cc in
        let q : counts.elements ≡ f.final.elements = cc in
        (rw p f.kept.vertex_room, rw q f.kept.element_room)

    pub accepted_done : (kept : List ℤ) (kept' : List ℕ) → Kept file counts kept kept' → (front : List ℤ) (front' : List ℕ)
        → front ≡ take (vertex_width * counts.vertices) kept → front' ≡ take (element_width * counts.elements) kept'
        → ReadDone file vertices elements (Ok counts)
        (front ++ drop (vertex_width * counts.vertices) vertices) (front' ++ drop (element_width * counts.elements) elements)
    unfolding verdict_of stored_vertices stored_elements
    accepted_done kept kept' k front front' v e = record {
      answer = ap (answer_of (0 ∷ 0 ∷ [])) judged;
      vertex_table = copied kept vertices front _ k.vertex_long v ∙ rw (← judged, k.vertex_table);
      element_table = copied kept' elements front' _ k.element_long e ∙ rw (← judged, k.element_table);
    }

  pub refused_done : (r : Refusal) → verdict_of (Err r) ≡ file_verdict (rooms_of vertices elements) file → ReadDone file vertices elements (Err r) vertices elements
  unfolding verdict_of stored_vertices stored_elements
  refused_done r judged = record {
    answer = ap (answer_of (0 ∷ 0 ∷ [])) judged;
    vertex_table = rw (← judged) (sym (laid_none vertices));
    element_table = rw (← judged) (sym (laid_none elements));
  }
