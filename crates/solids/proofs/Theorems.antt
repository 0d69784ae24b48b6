-- What is proved of solids, their cuts and how they fit, in the words of specs/ alone. A reader starts here.
-- Assumes nothing.
use mathlib.Core.Path.{◌≡◌, refl}
use mathlib.Core.Bool.{Bool, true, false, cond}
use mathlib.Core.List.{List, [], ◌∷◌, map, Memᴰ}
use Prim.Native.Nat.{ℕ, ◌+◌, ◌*◌, ◌≤◌, ◌<◌}
use native.Mathlib.Omega.{arith}
use lib.Dec.{T, eqb}
use lib.IntN.{pos}
use lib.ListN.{length, get_or}
use borrow.Author.Tests.{eq-eqb, eqb-true}
use Rattle.laws.specs.Words.{count, every, gather, among, distinct}
use Rattle.solids.specs.Solids.{Place, Vertex, Solid, tetrahedron, pyramid, prism, hexahedron, Face, Tet, tet, Element, element, corners, faces, of_face, of_tet, corners_of, faces_of}
use Rattle.solids.specs.Rotations.{is_rotation, relisted, rotations}
use Rattle.solids.specs.Cut.{through, how_many, written, cut, cut_mesh}
use Rattle.solids.specs.Reference.{volume_on, positive, counterclockwise, add_up, Filled}
use Rattle.solids.specs.Rows.{cut_places, row_places, row_place, row_tets, cut_by_row}
use Rattle.solids.specs.Samples.{Sample, samples}
use Rattle.solids.specs.Fit.{proper, same_set, fits, fitting}
use Rattle.solids.specs.Surface.{Plain, Piece, by_rule, Closed, Agreeing, wholes, SurfaceOf, SurfaceCut, CutAlike}
use Rattle.solids.specs.Listings.{Relisting, is_order, picked, as_element}
use Rattle.laws.proofs.TestLaws.{and_left, and_right, at_below}
use Rattle.laws.proofs.EveryLaws.{every-at}
use Rattle.solids.proofs.ShapeLaws.{from_proper}
use Rattle.solids.proofs.SampleLaws as SampleLaws
use Rattle.solids.proofs.RowLaws as RowLaws
use Rattle.solids.proofs.RowPlaces as RowPlaces
use Rattle.solids.proofs.CountLaws as CountLaws
use Rattle.solids.proofs.TetLaws as TetLaws
use Rattle.solids.proofs.ReferenceTest as ReferenceTest
use Rattle.solids.proofs.FilledLaws as FilledLaws
use Rattle.solids.proofs.RotationList as RotationList
use Rattle.solids.proofs.RotationsComplete as RotationsComplete
use Rattle.solids.proofs.RelistedLaws as RelistedLaws
use Rattle.solids.proofs.RelistingLaws as RelistingLaws
use Rattle.solids.proofs.FitLaws as FitLaws
use Rattle.solids.proofs.ReorderingLaws as ReorderingLaws
use Rattle.solids.proofs.MeshLaws as MeshLaws
use Rattle.solids.proofs.RuleLaws as RuleLaws
use Rattle.solids.proofs.NeighbourLaws as NeighbourLaws
use Rattle.solids.proofs.StaysOne as StaysOne
use Rattle.solids.proofs.LoneLaws as LoneLaws
use Rattle.solids.proofs.CutOfCut as CutOfCut

-- ---- the cut

-- the ten rows of the page's table
pub samples_hold : map (λ (s : Sample). cut s.whole) samples ≡ map (λ (s : Sample). s.parts) samples
samples_hold = SampleLaws.samples_hold

-- the 64 rows agree with the rule: for every hexahedron of eight different vertex numbers
pub rows_agree : (vs : List Vertex) → T (proper (element hexahedron vs)) → cut_by_row vs ≡ cut (element hexahedron vs)
rows_agree vs h = RowLaws.rows_agree vs (from_proper hexahedron vs h)

-- the table of 1,536 places is the 64 rows of 24 places, one after the other
pub row_places_lem : (r k : ℕ) → r < 64 → k < 24 → row_place r k ≡ get_or cut_places (r * 24 + k) 0
row_places_lem = RowPlaces.row_entry

-- how many tetrahedra an element gives
pub cut-many : (e : Element) → T (proper e) → length (cut e) ≡ how_many e
cut-many (element s vs) h = CountLaws.cut-many s vs (from_proper s vs h)

-- a hexahedron gives five exactly if n is 0
pub five_if : (vs : List Vertex) → T (proper (element hexahedron vs)) → through vs ≡ 0 → length (cut (element hexahedron vs)) ≡ 5
five_if vs h z = rw (cut-many (element hexahedron vs) h, eq-eqb (through vs) 0 z)

pub five_only_if : (vs : List Vertex) → T (proper (element hexahedron vs)) → length (cut (element hexahedron vs)) ≡ 5 → through vs ≡ 0
five_only_if vs h = rw (cut-many (element hexahedron vs) h) (go (eqb (through vs) 0) refl)
  where
    go : (b : Bool) → eqb (through vs) 0 ≡ b → ◌≡◌ {A = ℕ} (cond b 5 6) 5 → through vs ≡ 0
    go true e f = eqb-true (through vs) 0 e
    go false e f = absurd (omega arith)

-- at most six for each element, so at most 6,144 for 1,024
pub mesh_many : (es : List Element) → T (every proper es) → length (cut_mesh es) ≤ 6 * length es
mesh_many = CountLaws.mesh_many

pub mesh_most : (es : List Element) → T (every proper es) → length es ≤ 1024 → length (cut_mesh es) ≤ 6144
mesh_most es h l = omega (arith, mesh_many es h)

-- each tetrahedron has four different vertices, all of them the element's, and none occurs twice
pub plain : (e : Element) → T (proper e) → Plain e
plain = TetLaws.plain

-- ---- the reference solids

-- every listed face runs counterclockwise seen from outside
pub faces-counterclockwise : (s : Solid) → T (every (counterclockwise s) (faces s))
faces-counterclockwise = ReferenceTest.faces-counterclockwise

-- every tetrahedron of every cut is positive there, and they add up to 1, 2, 3 or 6
pub filled : (e : Element) → T (proper e) → Filled e
filled (element s vs) h = FilledLaws.filled s vs (from_proper s vs h)

-- and so are those of each of the 64 rows
pub row_positive : (r : ℕ) → r < 64 → T (every (λ t. positive (volume_on hexahedron t)) (row_tets (row_places r)))
row_positive r h =
    and_left (every (λ t. positive (volume_on hexahedron t)) (row_tets (row_places r)))
    (ReferenceTest.same_z (add_up (volume_on hexahedron) (row_tets (row_places r))) (pos 6)) (at_below 64 ReferenceTest.row_ok ReferenceTest.rows_fill r h)

pub row_fills : (r : ℕ) → r < 64 → add_up (volume_on hexahedron) (row_tets (row_places r)) ≡ pos 6
row_fills r h =
    FilledLaws.same_Z (add_up (volume_on hexahedron) (row_tets (row_places r))) (pos 6)
    (and_right (every (λ t. positive (volume_on hexahedron t)) (row_tets (row_places r)))
    (ReferenceTest.same_z (add_up (volume_on hexahedron) (row_tets (row_places r))) (pos 6)) (at_below 64 ReferenceTest.row_ok ReferenceTest.rows_fill r h))

-- ---- rotations

-- 12, 4, 6 and 24 of them, no two alike
pub rotations-many : map (λ s. length (rotations s)) (tetrahedron ∷ pyramid ∷ prism ∷ hexahedron ∷ []) ≡ 12 ∷ 4 ∷ 6 ∷ 24 ∷ []
rotations-many = RotationList.how_many

pub rotations_differ : (s : Solid) → T (RotationsComplete.all_differ (rotations s))
rotations_differ = RotationsComplete.all_differ_lem

-- each of them is one, and each reordering that the page's definition allows is among them
pub rotations_right : (s : Solid) → T (every (is_rotation s) (rotations s))
rotations_right = RotationList.are_rotations

pub rotations_all : (s : Solid) (ρ : List Place) → T (is_rotation s ρ) → Memᴰ ρ (rotations s)
rotations_all = RotationsComplete.complete

-- an element relisted by a rotation of its solid has the identical cut
pub cut-relisted : (s : Solid) (vs : List Vertex) → T (proper (element s vs)) → (ρ : List Place) → T (is_rotation s ρ)
    → cut (relisted ρ (element s vs)) ≡ cut (element s vs)
cut-relisted s vs h ρ r = RelistedLaws.rotate s vs (from_proper s vs h) ρ (RotationsComplete.complete s ρ r)

-- it is proper exactly if it was, for an element with as many corners as its solid has
pub proper-relisted : (s : Solid) (vs : List Vertex) → length vs ≡ corners s → (ρ : List Place) → T (is_rotation s ρ)
    → proper (relisted ρ (element s vs)) ≡ proper (element s vs)
proper-relisted = RelistingLaws.proper-relisted

-- and it fits exactly what the element fitted, whichever of the two comes first
pub fits-relisted : (s : Solid) (vs : List Vertex) → T (proper (element s vs)) → (ρ : List Place) → T (is_rotation s ρ) → (x : Element)
    → fits (relisted ρ (element s vs)) x ≡ fits (element s vs) x
fits-relisted = RelistingLaws.fits-relisted

pub relisted-fits : (s : Solid) (vs : List Vertex) → T (proper (element s vs)) → (ρ : List Place) → T (is_rotation s ρ) → (x : Element) → T (proper x)
    → fits x (relisted ρ (element s vs)) ≡ fits x (element s vs)
relisted-fits = RelistingLaws.relisted-fits

-- a mesh in which any elements are relisted by rotations is proper and fits exactly if it did, and its cut is identical
pub relisting_proper : {es xs : List Element} → Relisting es xs → every proper xs ≡ every proper es
relisting_proper = RelistingLaws.relisting_proper

pub relisting_fitting : {es xs : List Element} → Relisting es xs → T (every proper es) → fitting xs ≡ fitting es
relisting_fitting = RelistingLaws.relisting_fitting

pub relisting_cut : {es xs : List Element} → Relisting es xs → T (every proper es) → cut_mesh xs ≡ cut_mesh es
relisting_cut = RelistingLaws.relisting_cut

-- ---- the order of the elements

-- a reordering names every number below n
pub order_names : (n : ℕ) (σ : List ℕ) → T (is_order n σ) → (i : ℕ) → i < n → T (among i σ)
order_names = ReorderingLaws.order_names

-- which of two elements comes first does not matter to whether they fit
pub fits-sym : (e x : Element) → T (proper e) → T (proper x) → fits e x ≡ fits x e
fits-sym = FitLaws.fits-sym

-- for every reordering of the elements, the mesh is proper and fits exactly if it did, and its cut is the same blocks in the new order
pub reordered-proper : (d : Element) (es : List Element) (σ : List ℕ) → T (is_order (length es) σ) → every proper (picked d σ es) ≡ every proper es
reordered-proper = ReorderingLaws.reordered-proper

pub reordered-fitting : (d : Element) (es : List Element) (σ : List ℕ) → T (is_order (length es) σ) → T (every proper es) → fitting (picked d σ es) ≡ fitting es
reordered-fitting = ReorderingLaws.reordered-fitting

pub reordered-many : (d : Element) (es : List Element) (σ : List ℕ) → T (is_order (length es) σ) → length (cut_mesh (picked d σ es)) ≡ length (cut_mesh es)
reordered-many = ReorderingLaws.reordered-many

pub reordered-cut : (d : Element) (es : List Element) (σ : List ℕ) → T (is_order (length es) σ)
    → cut_mesh (picked d σ es) ≡ gather (λ b. b) (picked [] σ (map cut es))
reordered-cut = ReorderingLaws.reordered-cut

-- where the cut is these blocks, one after the other
pub blocks_joined : (es : List Element) → cut_mesh es ≡ gather (λ b. b) (map cut es)
blocks_joined = ReorderingLaws.blocks_joined

-- ---- the surface

-- one element: the surface of its cut is the cut of its surface
pub closed : (e : Element) → T (proper e) → Closed (by_rule e)
closed = RuleLaws.rule_closed

-- pieces, whoever chose their tetrahedra and the triangles of their faces: their surface is the triangles of the outer faces
pub surface_of : (ps : List Piece) → T (every proper (wholes ps)) → T (fitting (wholes ps)) → ((p : Piece) → Memᴰ p ps → Closed p)
    → Agreeing ps → SurfaceOf ps
surface_of = MeshLaws.surface_of

-- every mesh of proper elements that fit: the surface of the cut is the cut of the surface
pub surface-cut : (es : List Element) → T (every proper es) → T (fitting es) → SurfaceCut es
surface-cut = RuleLaws.surface-cut

-- two elements that fit and have the vertices of a face in common: it is a face of both, read backwards in the other, and they cut it into the same
-- triangles, run round in opposite directions
pub cut_alike : (e x : Element) → T (proper e) → T (proper x) → T (fits e x) → (F G : Face Vertex) → Memᴰ F (faces_of e) → Memᴰ G (faces_of x)
    → T (same_set (of_face F) (of_face G)) → CutAlike F G
cut_alike = NeighbourLaws.cut_alike

-- no tetrahedron of the cut uses a vertex that its element has not
pub own-vertices : (e : Element) → T (proper e) → (t : Tet Vertex) → Memᴰ t (cut e) → T (every (λ v. among v (corners_of e)) (of_tet t))
own-vertices e h t m = every-at (λ u. every (λ v. among v (corners_of e)) (of_tet u)) (cut e) (plain e h).own t m

-- and each tetrahedron of the cut mesh is one of the cut of an element
pub cut_of : (es : List Element) (t : Tet Vertex) → Memᴰ t (cut_mesh es) → (e : Element) × Memᴰ e es × Memᴰ t (cut e)
cut_of = CutOfCut.cut_of

-- The cut reads no coordinate: `cut` and `cut_mesh` take elements, which are solids and vertex numbers, so two vertex tables give one cut by type.

-- ---- the cut of a cut

-- a tetrahedron stays one: itself, as it is written
pub stays_one : (t : Tet Vertex) → T (distinct (of_tet t)) → cut (as_element t) ≡ written t ∷ []
stays_one (tet a b c d) h = StaysOne.stays_one a b c d (StaysOne.distinct_apart a b c d h)

-- no two tetrahedra of the cut mesh have the same four vertices
pub vertices_differ : (es : List Element) → T (every proper es) → T (fitting es) → (t : Tet Vertex) → count (λ u. same_set (of_tet t) (of_tet u)) (cut_mesh es) ≤ 1
vertices_differ es h f t = LoneLaws.lone_mesh (of_tet t) es h f

-- the tetrahedra of the cut, given as elements, are proper, fit, and are cut to themselves
pub again-proper : (es : List Element) → T (every proper es) → T (every proper (map as_element (cut_mesh es)))
again-proper = CutOfCut.cut-proper

pub again-fitting : (es : List Element) → T (every proper es) → T (fitting es) → T (fitting (map as_element (cut_mesh es)))
again-fitting = CutOfCut.cut-fitting

pub again_cut : (es : List Element) → T (every proper es) → cut_mesh (map as_element (cut_mesh es)) ≡ cut_mesh es
again_cut = CutOfCut.cut_again
