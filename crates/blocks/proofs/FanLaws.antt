-- The fan, face by face.
-- Assumes nothing.
use Rattle.std.proofs.Common.{◌≡◌, refl, sym, ap, ◌∙◌, Bool, true, false, cond, not, List, [], ◌∷◌, ◌++◌, map, ℕ, zero, suc, ◌+◌, ◌-◌, ◌≤◌, ◌<◌, length, drop, get_or, arith, length-append}
use mathlib.Core.List.{map-append}
use native.Mathlib.Nat.{le_refl}
use lib.ListN.{length-map, drop_of_length-le}
use Rattle.laws.specs.Words.{keep, gather}
use Rattle.solids.specs.declared.Solid.{Solid}
use Rattle.solids.specs.Solids.{Face, three, Tet, holds, element, faces, face_count, faces_of, at, on_face}
use Rattle.solids.specs.Cut.{cut_face, follow, in_order}
use Rattle.solids.proofs.CountLaws.{length-in_order}
use Rattle.faces.proofs.FaceLaws.{faces_from}
use Rattle.blocks.specs.BlockLoops.{face_tets, joined}
use Rattle.blocks.proofs.BlockLaws.{joined-in_order}

module _ (v : ℕ) where
  -- a vertex followed by each triangle of the cut faces that do not hold it
  abbrev pub fan_over : List (Face ℕ) → List (Tet ℕ)
  fan_over fs = map (follow v) (gather cut_face (keep (λ f. not (holds v f)) fs))

  pub fan-next : (F : Face ℕ) (fs : List (Face ℕ)) → fan_over (F ∷ fs) ≡ face_tets v F ++ fan_over fs
  unfolding face_tets
  fan-next F fs = go (holds v F) refl
    where
      go : (b : Bool) → holds v F ≡ b → fan_over (F ∷ fs) ≡ cond b [] (map (follow v) (cut_face F)) ++ fan_over fs
      go true e = rw e
      go false e = rw e (map-append (follow v) (cut_face F) (gather cut_face (keep (λ f. not (holds v f)) fs)))

  -- the fan of the last faces has not more than that of all
  pub fan-drop : (i : ℕ) (fs : List (Face ℕ)) → length (fan_over (drop i fs)) ≤ length (fan_over fs)
  fan-drop zero fs = le_refl (length (fan_over fs))
  fan-drop (suc i) [] = le_refl 0
  fan-drop (suc i) (F ∷ fs) = rw (fan-next F fs, length-append (face_tets v F) (fan_over fs)) (omega (arith, fan-drop i fs))

  -- a face by its two cases
  pub near_tets : (F : Face ℕ) → holds v F ≡ true → face_tets v F ≡ []
  unfolding face_tets
  near_tets F e = rw e

  pub far_tets : (F : Face ℕ) → holds v F ≡ false → face_tets v F ≡ map (follow v) (cut_face F)
  unfolding face_tets
  far_tets F e = rw e

-- the faces of an element, from the last to the first
module _ (s : Solid) (vs : List ℕ) (v : ℕ) where
  -- the fan over the faces from i on
  abbrev pub fan_from : ℕ → List (Tet ℕ)
  fan_from i = fan_over v (drop i (faces_of (element s vs)))

  pub fan_from-end : (n : ℕ) → n ≡ face_count s → fan_from n ≡ []
  fan_from-end n e =
      ap (fan_over v) (drop_of_length-le (faces_of (element s vs)) {i = n} (rw (length-map (faces s) (on_face (at vs)), e) (le_refl (face_count s))))

  module _ (i : ℕ) (h : 0 < i) (up : i ≤ face_count s) {F : Face ℕ} (f : F ≡ get_or (faces_of (element s vs)) (i - 1) (three 0 0 0)) where
    fan_from-more : fan_from (i - 1) ≡ face_tets v F ++ fan_from i
    fan_from-more =
        let e : suc (i - 1) ≡ i = omega arith in
        ap (fan_over v) (faces_from s vs (i - 1) (omega arith) f ∙ ap (λ (j : ℕ). F ∷ drop j (faces_of (element s vs))) e)
        ∙ fan-next v F (drop i (faces_of (element s vs)))

    module _ {ts : List (Tet ℕ)} (b : ts ≡ in_order (fan_from i)) where
      -- there is room for the tetrahedra of one face more
      pub fan-room : length (fan_from 0) ≤ 6 → length ts + length (face_tets v F) ≤ 6
      fan-room few =
          omega (
            arith,
            ap length fan_from-more ∙ length-append (face_tets v F) (fan_from i),
            ap length b ∙ length-in_order (fan_from i),
            fan-drop v (i - 1) (faces_of (element s vs)),
          )

      pub fan-step : joined (face_tets v F) ts ≡ in_order (fan_from (i - 1))
      fan-step = ap (joined (face_tets v F)) b ∙ joined-in_order (face_tets v F) (fan_from i) ∙ ap in_order (sym fan_from-more)
