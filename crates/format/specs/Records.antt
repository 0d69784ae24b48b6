-- The records that an accepted file leaves in the two lent tables.
use Rattle.std.specs.Prelude.{ℕ, Bool, true, false, List, [], ◌∷◌, ◌++◌, map, get_or, ℤ}
use Rattle.limits.specs.Limits.{vertex_width}
use Rattle.laws.specs.Pieces.{Pieces, rest, piece}
use Rattle.faults.specs.Refusals.{Verdict, accepted, refused}
use Rattle.format.specs.Number.{thousandths_of}
use Rattle.format.specs.Line.{mark_of, role_of, wants, fields_of, first_of, numbers_of, after}
use Rattle.format.specs.File.{start, lines_of, file_verdict}
use Rattle.format.specs.declared.Mark.{Mark}
use Rattle.format.specs.declared.Mark.TheVariants.{Vx, Te, Py, Pz, Pr, Hx, En, Unknown}
use Rattle.format.specs.declared.Role.{Role}
use Rattle.format.specs.declared.Role.TheVariants.{VertexLine, ElementLine, EndLine, UnknownLine}
use Rattle.format.specs.declared.ReaderState.{ReaderState}
use Rattle.format.specs.declared.Rooms.{Rooms}

-- ---- the record of a line, in the state before it

-- a vertex is three signed numbers
unfoldable pub vertex_record : ReaderState → Pieces → List ℤ
vertex_record state p = first_of thousandths_of vertex_width p

-- PZ has the tip first, then base 1 2 3 4
abbrev pub tip_first : Mark → Bool
tip_first Vx = false
tip_first Te = false
tip_first Py = false
tip_first Pz = true
tip_first Pr = false
tip_first Hx = false
tip_first En = false
tip_first Unknown = false

-- which field, from 0, each corner comes from: as they stand, but PZ is stored as PY, base 1 2 3 4, then tip
abbrev pub corner_fields : Bool → List ℕ
corner_fields true = 1 ∷ 2 ∷ 3 ∷ 4 ∷ 0 ∷ 5 ∷ 6 ∷ 7 ∷ []
corner_fields false = 0 ∷ 1 ∷ 2 ∷ 3 ∷ 4 ∷ 5 ∷ 6 ∷ 7 ∷ []

-- an element is nine numbers: its kind, which is its corner count, then eight vertex numbers, unused ones zero
unfoldable pub element_record : ReaderState → Mark → Pieces → List ℕ
element_record state mark p = wants mark ∷ map (λ k. get_or (numbers_of p) k 0) (corner_fields (tip_first mark))

-- what a line adds to the vertex table
unfoldable pub vertex_records : ReaderState → Role → List ℕ → List ℤ
vertex_records state VertexLine l = vertex_record state (fields_of l)
vertex_records state ElementLine l = []
vertex_records state EndLine l = []
vertex_records state UnknownLine l = []

-- what a line adds to the element table
unfoldable pub element_records : ReaderState → Role → List ℕ → List ℕ
element_records state VertexLine l = []
element_records state ElementLine l = element_record state (mark_of l) (fields_of l)
element_records state EndLine l = []
element_records state UnknownLine l = []

-- ---- the records of a file

-- what the lines add, in order, each in the state before it
unfoldable pub records_from : {A : Type 0} → (ReaderState → Role → List ℕ → List A) → ReaderState → Pieces → List A
records_from records state (rest l) = []
records_from records state (piece l p) = records state (role_of (mark_of l)) l ++ records_from records (after state l) p

-- the records of a refused file are none
abbrev pub of_accepted : {A : Type 0} → Verdict (List ℕ) → List A → List A
of_accepted (accepted counts) records = records
of_accepted (refused r) records = []

-- the vertices that reading stores
unfoldable pub stored_vertices : Rooms → List ℕ → List ℤ
stored_vertices rooms file = of_accepted (file_verdict rooms file) (records_from vertex_records start (lines_of file))

-- the elements that reading stores
unfoldable pub stored_elements : Rooms → List ℕ → List ℕ
stored_elements rooms file = of_accepted (file_verdict rooms file) (records_from element_records start (lines_of file))
