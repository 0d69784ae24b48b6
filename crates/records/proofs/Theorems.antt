-- What is proved of the element record, in the words of specs/ alone. A reader starts here.
-- Assumes nothing.
use mathlib.Core.Path.{◌≡◌, sym, ap, ◌∙◌}
use mathlib.Core.Bool.{Bool}
use mathlib.Core.List.{List, ◌∷◌, ◌++◌, Memᴰ}
use Prim.Native.Nat.{ℕ, ◌+◌, ◌*◌, ◌≤◌, ◌<◌}
use lib.Dec.{T, eqb}
use lib.ListN.{length, get_or}
use Rattle.limits.specs.Limits.{element_width}
use Rattle.laws.specs.Words.{every, gather, among}
use Rattle.std.specs.Prelude.{Result, Ok}
use Rattle.faults.specs.declared.Fault.{Fault}
use Rattle.solids.specs.declared.Solid.{Solid}
use Rattle.solids.specs.declared.Vertex.{Vertex}
use Rattle.solids.specs.Solids.{Tet, Element, element, corners_of, at}
use Rattle.solids.specs.Fit.{proper}
use Rattle.records.specs.Record.{kind_of, used_of, spare_of, record_of, as_record, corner_at, solid_of, element_of, record_finding, record_at, element_at, first_elements, record_count}
use Rattle.records.specs.Elements.{seen}
use Rattle.records.specs.declared.element.Element as declared
use Rattle.records.specs.WholeRecords.{is_number, Faultless, Whole, WholeTable}
use Rattle.records.proofs.RecordLaws as L
use Rattle.records.proofs.GatheredLaws as G

-- ---- two answers that a contract allows are equal

one : {A : Type 0} {a b x : A} → a ≡ x → b ≡ x → a ≡ b
one p q = p ∙ sym q

-- `solid_of`
pub solid_unique : (k : ℕ) (a b : Solid) → a ≡ solid_of k → b ≡ solid_of k → a ≡ b
solid_unique k a b = one

-- `kind_of`
pub kind_unique : (r : List ℕ) (a b : ℕ) → a ≡ kind_of r → b ≡ kind_of r → a ≡ b
kind_unique r a b = one

-- `corner`
pub corner_unique : (r : List ℕ) (p : ℕ) (a b : Vertex) → a.0 ≡ corner_at r p → b.0 ≡ corner_at r p → a ≡ b
corner_unique r p a b e f = λ i. record { 0 = one e f i }

-- `corners_of`
pub corners_unique : (r : List ℕ) (a b : List ℕ) → a ≡ used_of r → b ≡ used_of r → a ≡ b
corners_unique r a b = one

-- `Element::of`: the same solid, and the same vertex numbers
pub element_unique : (r : List ℕ) (a b : declared.Element) → seen a ≡ element_of r → seen b ≡ element_of r → (a.solid ≡ b.solid) × (a.corners.now ≡ b.corners.now)
element_unique r a b e f = (ap solid_in (one e f), ap corners_of (one e f))
  where
    solid_in : Element → Solid
    solid_in (element s vs) = s

-- `tetrahedron_record`
pub tetrahedron_unique : (t : Tet ℕ) (a b : List ℕ) → a ≡ as_record t → b ≡ as_record t → a ≡ b
tetrahedron_unique t a b = one

-- `record_count`
pub count_unique : (t : List ℕ) (a b : ℕ) → a ≡ record_count t → b ≡ record_count t → a ≡ b
count_unique t a b = one

-- `record_at`
pub record_unique : (t : List ℕ) (k : ℕ) (a b : List ℕ) → a ≡ record_at t k → b ≡ record_at t k → a ≡ b
record_unique t k a b = one

-- `is_among`
pub among_unique : (v : ℕ) (l : List ℕ) (a b : Bool) → a ≡ among v l → b ≡ among v l → a ≡ b
among_unique v l a b = one

-- `judge_record`
pub judgement_unique : (limit : ℕ) (r : List ℕ) (a b : Result (Unit {0}) Fault) → a ≡ record_finding limit r → b ≡ record_finding limit r → a ≡ b
judgement_unique limit r a b = one

-- ---- a record

-- no fault is found exactly where there is none
pub clean_faultless : (limit : ℕ) (r : List ℕ) → record_finding limit r ≡ Ok tt → Faultless limit r
clean_faultless = L.clean_faultless

pub faultless_clean : (limit : ℕ) (r : List ℕ) → Faultless limit r → record_finding limit r ≡ Ok tt
faultless_clean = L.faultless_clean

-- a record without a fault is whole, and a vertex number between 1 and the limit stands at each of its corners
pub clean-whole : (limit : ℕ) (r : List ℕ) → record_finding limit r ≡ Ok tt → Whole r
clean-whole = L.clean-whole

pub clean_corner : (limit : ℕ) (r : List ℕ) → record_finding limit r ≡ Ok tt → (p : ℕ) → 0 < p → p ≤ kind_of r → T (is_number limit (corner_at r p))
clean_corner = L.clean_corner

-- a whole record holds a proper element, whose corners are the vertex numbers at its places
pub whole-proper : (r : List ℕ) → Whole r → T (proper (element_of r))
whole-proper = L.whole-proper

pub corner_of_element : (r : List ℕ) (p : ℕ) → p ≤ kind_of r → corner_at r p ≡ at (corners_of (element_of r)) p
unfolding element_of
corner_of_element = L.corner_used

-- nine numbers are a kind, the used vertex numbers and the unused ones
pub record_parts : (r : List ℕ) → length r ≡ element_width → r ≡ kind_of r ∷ (used_of r ++ spare_of r)
record_parts = L.record_parts

-- a record made of a kind, as many vertex numbers and the unused ones has these parts
pub made_length : (k : ℕ) (used spare : List ℕ) → length used ≡ k → length used + length spare ≡ 8 → length (record_of k used spare) ≡ element_width
made_length = L.made_length

pub made_kind : (k : ℕ) (used spare : List ℕ) → length used ≡ k → length used + length spare ≡ 8 → kind_of (record_of k used spare) ≡ k
made_kind = L.made_kind

pub made_used : (k : ℕ) (used spare : List ℕ) → length used ≡ k → length used + length spare ≡ 8 → used_of (record_of k used spare) ≡ used
made_used = L.made_used

pub made_spare : (k : ℕ) (used spare : List ℕ) → length used ≡ k → length used + length spare ≡ 8 → spare_of (record_of k used spare) ≡ spare
made_spare = L.made_spare

-- ---- a table

pub record_length : (t : List ℕ) (n k : ℕ) → element_width * n ≤ length t → k < n → length (record_at t k) ≡ element_width
record_length = L.record_length

-- n elements, each in its place, and proper where the table is whole
pub first-length : (t : List ℕ) (n : ℕ) → length (first_elements t n) ≡ n
first-length = L.first-length

pub first-at : (t : List ℕ) (n k : ℕ) (d : Element) → k < n → get_or (first_elements t n) k d ≡ element_at t k
first-at = L.first-at

-- what each of them passes, all pass, and back; they are these, if each is; and one of them stands at an index
pub first_all : (t : List ℕ) (p : Element → Bool) (n : ℕ) → ((k : ℕ) → k < n → T (p (element_at t k))) → T (every p (first_elements t n))
first_all = L.first_all

pub first-each : (t : List ℕ) (p : Element → Bool) (n : ℕ) → T (every p (first_elements t n)) → (k : ℕ) → k < n → T (p (element_at t k))
first-each = L.first-each

pub first_are : (t : List ℕ) (n : ℕ) (d : Element) (l : List Element) → length l ≡ n → ((k : ℕ) → k < n → element_at t k ≡ get_or l k d) → first_elements t n ≡ l
first_are = L.first_are

pub first_member : (t : List ℕ) (n : ℕ) (e : Element) → Memᴰ e (first_elements t n) → (k : ℕ) × (k < n) × (e ≡ element_at t k)
first_member = L.first_member

pub first-proper : (t : List ℕ) (n : ℕ) → WholeTable t n → T (every proper (first_elements t n))
first-proper = L.first-proper

-- records that f makes, one after the other: their numbers, and the record at an index, whatever stands behind them
pub gathered_length : {A : Type 0} (f : A → List ℕ) (l : List A) → T (every (λ x. eqb (length (f x)) element_width) l) → length (gather f l) ≡ element_width * length l
gathered_length = G.gathered_length

pub gathered_at : {A : Type 0} (f : A → List ℕ) (d : A) (l : List A) (rest : List ℕ) (k : ℕ) → T (every (λ x. eqb (length (f x)) element_width) l) → k < length l
    → record_at (gather f l ++ rest) k ≡ f (get_or l k d)
gathered_at = G.gathered_at
