-- What is promised of the looked-up places, in the words of specs/ alone: two answers that a contract allows are equal, and no place is above 8.
-- Assumes nothing.
use mathlib.Core.Path.{◌≡◌, sym, ◌∙◌}
use mathlib.Core.List.{List}
use Prim.Native.Nat.{ℕ, ◌≤◌}
use Rattle.solids.specs.declared.Solid.{Solid}
use Rattle.solids.specs.declared.Place.{Place}
use Rattle.solids.specs.Solids.{face_count, face_place}
use Rattle.solids.specs.Rows.{row_place, cut_places}
use Rattle.solids.proofs.RowPlaces as RowPlaces
use Rattle.places.proofs.PlaceTableLaws as PlaceTableLaws

-- `face_count`
pub face_count_unique : (s : Solid) (a b : ℕ) → a ≡ face_count s → b ≡ face_count s → a ≡ b
face_count_unique s a b e f = e ∙ sym f

same_place : {n : ℕ} (a b : Place) → a.0 ≡ n → b.0 ≡ n → a ≡ b
same_place a b e f = λ i. record { 0 = (e ∙ sym f) i }

-- `face_place`
pub face_place_unique : (s : Solid) (i k : ℕ) (a b : Place) → a.0 ≡ face_place s i k → b.0 ≡ face_place s i k → a ≡ b
face_place_unique s i k a b = same_place a b

-- `row_place`
pub row_place_unique : (r k : ℕ) (a b : Place) → a.0 ≡ row_place r k → b.0 ≡ row_place r k → a ≡ b
row_place_unique r k a b = same_place a b

-- `cut_places`
pub cut_places_unique : (a b : List ℕ) → a ≡ cut_places → b ≡ cut_places → a ≡ b
cut_places_unique a b e f = e ∙ sym f

-- every place is one of the eight, or 0 for none
pub face_place_small : (s : Solid) (i k : ℕ) → face_place s i k ≤ 8
face_place_small = PlaceTableLaws.face_place_small

pub row_place_small : (r k : ℕ) → row_place r k ≤ 8
row_place_small = RowPlaces.row_place_small
