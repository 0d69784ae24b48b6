-- Demand 3 for tables: tables listed in other ways, tetrahedra as a table and in lent memory, and the surface of the tetrahedra.
use Rattle.std.specs.Prelude.{◌≡◌, List, [], ◌∷◌, map, ℕ, zero, suc, ◌*◌, ◌≤◌, ◌<◌, T, length, get_or, drop}
use Rattle.limits.specs.Limits.{tetrahedron_width, element_width}
use Rattle.laws.specs.Words.{gather}
use Rattle.laws.specs.Lent.{laid}
use Rattle.solids.specs.Solids.{Place, Vertex, Tri, Tet, tet, Element, at}
use Rattle.solids.specs.Cut.{cut_face, cut}
use Rattle.solids.specs.Fit.{outer_faces}
use Rattle.solids.specs.Surface.{back, times, owners}
use Rattle.solids.specs.Listings.{Relists, is_order, picked}
use Rattle.records.specs.Record.{kind_of, used_of, spare_of, record_of, as_record, element_of, record_at}

-- ---- relisting

-- r' is the record r with its corners as they were, or relisted by a rotation of its solid; the kind and the unused numbers stay
pub record RecordRelisted (r r' : List ℕ) : Type 0 where
  pub long : length r' ≡ length r
  pub kind : kind_of r' ≡ kind_of r
  pub unused : spare_of r' ≡ spare_of r
  pub corners : Relists (element_of r) (element_of r')

-- t' is the table t in which any of the first n records are relisted so
pub record TableRelisted (n : ℕ) (t t' : List ℕ) : Type 0 where
  pub long : length t' ≡ length t
  pub each : (k : ℕ) → k < n → RecordRelisted (record_at t k) (record_at t' k)

-- such a record: its place i holds what stood at place ρ i
abbrev pub relisted_record : List Place → List ℕ → List ℕ
relisted_record ρ r = record_of (kind_of r) (map (at (used_of r)) ρ) (spare_of r)

-- the records of a table from the index i on, relisted one by one
unfoldable pub relisted_records : List (List Place) → ℕ → List ℕ → List (List ℕ)
relisted_records [] i t = []
relisted_records (ρ ∷ ρs) i t = relisted_record ρ (record_at t i) ∷ relisted_records ρs (suc i) t

-- such a table: its first records relisted one by one, then what stood behind them
unfoldable pub relisted_table : List (List Place) → List ℕ → List ℕ
relisted_table ρs t = laid (gather (λ r. r) (relisted_records ρs 0 t)) t

-- ---- reordering

-- t' is the table t with its first n records in the order σ
pub record TableReordered (n : ℕ) (σ t t' : List ℕ) : Type 0 where
  pub order : T (is_order n σ)
  pub long : length t' ≡ length t
  pub each : (k : ℕ) → k < n → record_at t' k ≡ record_at t (get_or σ k 0)

-- such a table: the records in the order σ, then what stood behind them
unfoldable pub reordered : List ℕ → List ℕ → List ℕ
reordered σ t = laid (gather (record_at t) σ) t

-- the blocks of the elements, each the cut of one, in the order σ
unfoldable pub blocks_in_order : List ℕ → List Element → List (Tet Vertex)
blocks_in_order σ es = gather (λ b. b) (picked [] σ (map cut es))

-- ---- tetrahedra

-- tetrahedra as a table of element records
unfoldable pub as_table : List (Tet Vertex) → List ℕ
as_table ts = gather as_record ts

-- t begins with the tetrahedra as element records, whatever stands behind them
pub record BeginsWith (ts : List (Tet Vertex)) (t : List ℕ) : Type 0 where
  pub long : element_width * length ts ≤ length t
  pub each : (k : ℕ) → k < length ts → record_at t k ≡ as_record (get_or ts k (tet 0 0 0 0))

-- the first k tetrahedra that stand in a memory, four vertex numbers each
unfoldable pub tetrahedra_in : ℕ → List ℕ → List (Tet Vertex)
tetrahedra_in zero l = []
tetrahedra_in (suc k) l = tet (get_or l 0 0) (get_or l 1 0) (get_or l 2 0) (get_or l 3 0) ∷ tetrahedra_in k (drop tetrahedron_width l)

-- ---- the surface

-- the triangles of the cut outer faces
unfoldable pub cut_surface : List Element → List (Tri Vertex)
cut_surface es = gather cut_face (outer_faces es)

-- The surface of the tetrahedra is the cut of the surface of the elements:
--   once   an oriented triangle is a side of at most one tetrahedron
--   inner  where a side's reverse is a side too, each of the two is a side of exactly one
--   outer  a side whose reverse is none is a triangle of the cut outer faces, once
--   only   a triangle of the cut outer faces is there once, is a side of exactly one tetrahedron, and its reverse of none
pub record SurfaceIsCut (es : List Element) (ts : List (Tet Vertex)) : Type 0 where
  pub once : (t : Tri Vertex) → owners t ts ≤ 1
  pub inner : (t : Tri Vertex) → 1 ≤ owners t ts → 1 ≤ owners (back t) ts → (owners t ts ≡ 1) × (owners (back t) ts ≡ 1)
  pub outer : (t : Tri Vertex) → 1 ≤ owners t ts → owners (back t) ts ≡ 0 → times t (cut_surface es) ≡ 1
  pub only : (t : Tri Vertex) → 1 ≤ times t (cut_surface es) → (times t (cut_surface es) ≡ 1) × (owners t ts ≡ 1) × (owners (back t) ts ≡ 0)
