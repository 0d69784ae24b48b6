-- What is promised of the text file as it is defined, in the words of specs/ alone. A reader starts here.
--   coordinates_hold    the samples of coordinates are what the definition says
--   files_hold          the samples of files: their verdicts, and the records that they leave
--   long-refused        a file above 65,536 bytes is LONG
--   comma-refused       a coordinate field that holds a comma is COMMA, whatever else is wrong in it
--   accepted_no_comma   an accepted file holds no comma anywhere
--   accepted_counts     its counts are those of its records, within the limits and the lent tables
--   accepted-ranged     its coordinates are within the limits
--   accepted_stored     its element records have no fault but that a vertex may stand in one twice
--   refused_none        a refused file has no records
-- Assumes nothing.
use Prim.Native.Nat.{ℕ, ◌*◌, ◌≤◌, ◌<◌}
use mathlib.Core.Path.{◌≡◌}
use mathlib.Core.Bool.{true}
use mathlib.Core.List.{List, [], ◌∷◌, map}
use lib.Dec.{T}
use lib.ListN.{length}
use borrow.Author.Tests.{lt-ltb}
use Rattle.std.specs.Prelude.{Err}
use Rattle.limits.specs.Limits.{comma, file_limit, vertex_limit, element_limit, vertex_width, element_width}
use Rattle.laws.specs.Words.{every}
use Rattle.laws.specs.Pieces.{split}
use Rattle.laws.proofs.PieceLaws.{Free}
use Rattle.faults.specs.Refusals.{accepted, refused, refuse}
use Rattle.faults.specs.declared.Fault.TheVariants as fault
use Rattle.faults.specs.declared.Refusal.{Refusal}
use Rattle.volume.specs.Volume.{in_range}
use Rattle.format.specs.Number.{cut, coordinate_of}
use Rattle.format.specs.File.{start, lines_of, file_verdict}
use Rattle.format.specs.Records.{vertex_records, element_records, records_from, stored_vertices, stored_elements}
use Rattle.format.specs.StoredRecords.{Stored, EachRecord}
use Rattle.format.specs.FileSamples.{coordinate_read, coordinate_samples, file_read, file_samples}
use Rattle.format.specs.declared.Rooms.{Rooms}
use Rattle.format.proofs.FileSampleLaws as S
use Rattle.format.proofs.AcceptedFileLaws.{file-fits}
use Rattle.format.proofs.StoredRecordLaws.{records_ranged, file_stored}
use Rattle.format.proofs.CommaLaws.{file_free}

-- ---- samples

pub coordinates_hold : map coordinate_read coordinate_samples ≡ coordinate_samples
coordinates_hold = S.coordinates_hold

pub files_hold : map file_read file_samples ≡ file_samples
files_hold = S.files_hold

-- ---- a file that is too long

pub long-refused : (rooms : Rooms) (file : List ℕ) → file_limit < length file → file_verdict rooms file ≡ refused (refuse fault.Long 0)
unfolding file_verdict
long-refused rooms file h = rw (lt-ltb file_limit (length file) h)

-- ---- a comma

pub comma-refused : (l : List ℕ) → cut (split comma l) ≡ true → coordinate_of l ≡ Err fault.Comma
unfolding coordinate_of
comma-refused l h = rw h

-- b stands in no place of a text: `Free b`
pub accepted_no_comma : (rooms : Rooms) (file counts : List ℕ) → file_verdict rooms file ≡ accepted counts → Free comma file
accepted_no_comma rooms file counts e = file_free rooms counts file e

-- ---- an accepted file

-- it is not too long; three numbers a vertex, nine an element, and as many as the counts say
pub record Counted (rooms : Rooms) (file : List ℕ) (vertices elements : ℕ) : Type 0 where
  pub short : length file ≤ file_limit
  pub vertices_stored : length (records_from vertex_records start (lines_of file)) ≡ vertex_width * vertices
  pub elements_stored : length (records_from element_records start (lines_of file)) ≡ element_width * elements
  pub vertices_limited : vertices ≤ vertex_limit
  pub elements_limited : elements ≤ element_limit
  pub vertices-fit : vertex_width * vertices ≤ rooms.vertices
  pub elements-fit : element_width * elements ≤ rooms.elements

pub accepted_counts : (rooms : Rooms) (file : List ℕ) (vertices elements : ℕ)
    → file_verdict rooms file ≡ accepted (vertices ∷ elements ∷ []) → Counted rooms file vertices elements
accepted_counts rooms file vertices elements e =
    let f = file-fits rooms file (vertices ∷ elements ∷ []) e in
    let c = f.counts in
    let p : vertices ≡ f.final.vertices = cc in
    let q : elements ≡ f.final.elements = cc in
    record {
      short = f.short;
      vertices_stored = rw p f.vertices;
      elements_stored = rw q f.elements;
      vertices_limited = rw p f.kept.vertices;
      elements_limited = rw q f.kept.elements;
      vertices-fit = rw p f.kept.vertex_room;
      elements-fit = rw q f.kept.element_room;
    }

pub accepted-ranged : (rooms : Rooms) (file counts : List ℕ) → file_verdict rooms file ≡ accepted counts → T (every in_range (stored_vertices rooms file))
unfolding stored_vertices
accepted-ranged rooms file counts e = rw e (records_ranged start (lines_of file))

pub accepted_stored : (rooms : Rooms) (file : List ℕ) (vertices elements : ℕ) → file_verdict rooms file ≡ accepted (vertices ∷ elements ∷ [])
    → EachRecord element_width (Stored vertices) (stored_elements rooms file)
unfolding stored_elements
accepted_stored rooms file vertices elements e = rw e (file_stored rooms vertices elements file e)

-- ---- a refused file

pub refused_none : (rooms : Rooms) (file : List ℕ) (r : Refusal) → file_verdict rooms file ≡ refused r
    → (stored_vertices rooms file ≡ []) × (stored_elements rooms file ≡ [])
unfolding stored_vertices stored_elements
refused_none rooms file r e = (rw e, rw e)
