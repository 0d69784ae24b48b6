-- What an accepted file tells: its counts are those of its records, and are within the limits and the lent tables.
-- Assumes nothing.
use Prim.Native.Nat.{ℕ, ◌+◌, ◌≤◌, zero-le}
use native.Mathlib.Omega.{arith}
use mathlib.Core.Path.{◌≡◌}
use mathlib.Core.Bool.{false}
use mathlib.Core.List.{List, [], ◌∷◌}
use lib.ListN.{length, length-append}
use borrow.Author.Tests.{ltb-false, leb-false}
use Rattle.limits.specs.Limits.{file_limit, vertex_limit, element_limit}
use Rattle.laws.specs.Pieces.{Pieces, rest, piece}
use Rattle.faults.specs.Refusals.{accepted}
use Rattle.format.specs.Line.{mark_of, role_of, too_many, no_room, after_role, after}
use Rattle.format.specs.File.{start, lines_of, file_verdict}
use Rattle.format.specs.Records.{vertex_records, element_records, records_from}
use Rattle.format.specs.declared.Role.{Role}
use Rattle.format.specs.declared.Role.TheVariants.{VertexLine, ElementLine, EndLine, UnknownLine}
use Rattle.format.specs.declared.ReaderState.{ReaderState}
use Rattle.format.specs.declared.Rooms.{Rooms}
use Rattle.format.proofs.FileLaws.{Taken, accepted-holds}
use Rattle.format.proofs.FileRecordLaws.{vertex_place, element_place, vertex_grows, element_grows}

-- the counts so far are within the limits, and their records within the tables
pub record Kept (rooms : Rooms) (state : ReaderState) : Type 0 where
  pub vertices : state.vertices ≤ vertex_limit
  pub elements : state.elements ≤ element_limit
  pub vertex_room : vertex_place state ≤ rooms.vertices
  pub element_room : element_place state ≤ rooms.elements

-- the lines that are left end in a state whose counts are the file's, and add the records from this state to that one
record Ending (rooms : Rooms) (cs : List ℕ) (state : ReaderState) (p : Pieces) : Type 0 where
  pub final : ReaderState
  pub counts : cs ≡ final.vertices ∷ final.elements ∷ []
  pub vertices : vertex_place state + length (records_from vertex_records state p) ≡ vertex_place final
  pub elements : element_place state + length (records_from element_records state p) ≡ element_place final
  pub kept : Kept rooms state → Kept rooms final

module _ (rooms : Rooms) where
  role_kept : (state : ReaderState) (role : Role) → too_many state role ≡ false → no_room rooms state role ≡ false
      → Kept rooms state → Kept rooms (after_role state role)
  unfolding too_many no_room after_role
  role_kept state VertexLine f g k = record {
    vertices = omega (arith, leb-false vertex_limit state.vertices f);
    elements = k.elements;
    vertex_room = ltb-false _ _ g;
    element_room = k.element_room;
  }
  role_kept state ElementLine f g k = record {
    vertices = k.vertices;
    elements = omega (arith, leb-false element_limit state.elements f);
    vertex_room = k.vertex_room;
    element_room = ltb-false _ _ g;
  }
  role_kept state EndLine f g k = record {
    vertices = k.vertices;
    elements = k.elements;
    vertex_room = k.vertex_room;
    element_room = k.element_room;
  }
  role_kept state UnknownLine f g k = k

  line_kept : (state : ReaderState) (l : List ℕ) → Taken rooms state l (after state l) → Kept rooms state → Kept rooms (after state l)
  unfolding after
  line_kept state l t = role_kept state (role_of (mark_of l)) t.few t.room

  last_ends : (cs : List ℕ) (state : ReaderState) → cs ≡ state.vertices ∷ state.elements ∷ [] → Ending rooms cs state (rest [])
  unfolding records_from
  last_ends cs state e = record { final = state; counts = e; vertices = omega arith; elements = omega arith; kept = λ k. k }

  line-ends : (cs : List ℕ) (state : ReaderState) (l : List ℕ) (p : Pieces) → Taken rooms state l (after state l)
      → Ending rooms cs (after state l) p → Ending rooms cs state (piece l p)
  unfolding records_from
  line-ends cs state l p t i = record {
    final = i.final;
    counts = i.counts;
    vertices = simp length-append (omega (arith, i.vertices, vertex_grows state l));
    elements = simp length-append (omega (arith, i.elements, element_grows state l));
    kept = λ k. i.kept (line_kept state l t k);
  }

-- ---- the whole file

-- it is not too long; it ends in a state whose counts are the file's, as many as its records, within limits and tables
pub record Fitting (rooms : Rooms) (file : List ℕ) (cs : List ℕ) : Type 0 where
  pub short : length file ≤ file_limit
  pub final : ReaderState
  pub counts : cs ≡ final.vertices ∷ final.elements ∷ []
  pub vertices : length (records_from vertex_records start (lines_of file)) ≡ vertex_place final
  pub elements : length (records_from element_records start (lines_of file)) ≡ element_place final
  pub kept : Kept rooms final

pub file-fits : (rooms : Rooms) (file cs : List ℕ) → file_verdict rooms file ≡ accepted cs → Fitting rooms file cs
unfolding start
file-fits rooms file cs e =
    let h = accepted-holds rooms cs (Ending rooms cs) (last_ends rooms cs) (line-ends rooms cs) file e in
    let i = h.1 in
    record {
      short = h.0;
      final = i.final;
      counts = i.counts;
      vertices = omega (arith, i.vertices);
      elements = omega (arith, i.elements);
      kept = i.kept (record { vertices = zero-le; elements = zero-le; vertex_room = zero-le; element_room = zero-le });
    }
