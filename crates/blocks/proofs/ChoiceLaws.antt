-- The choice of far diagonals, face by face.
-- Assumes nothing.
use Rattle.std.proofs.Common.{◌≡◌, refl, sym, ap, ◌∙◌, Bool, true, false, cond, List, [], ◌∷◌, ℕ, zero, suc, ◌+◌, ◌-◌, ◌*◌, ◌≤◌, ◌<◌, length, drop, get_or, arith, length-drop}
use Rattle.solids.specs.declared.Solid.TheVariants.{Hexahedron}
use Rattle.solids.specs.Solids.{Face, three, holds, element, faces_of}
use Rattle.solids.specs.Cut.{lowest_first, on_diagonal}
use Rattle.faces.proofs.FaceLaws.{faces_from}
use Rattle.blocks.specs.BlockLoops.{choice, with_bit}

module _ (low high : ℕ) where
  -- at most one binary digit more
  pub bit_most : (F : Face ℕ) (n : ℕ) → with_bit low high F n ≤ 1 + 2 * n
  unfolding with_bit
  bit_most F n = go (holds low F) (on_diagonal high (lowest_first F))
    where
      go : (b c : Bool) → cond b n (cond c 1 0 + 2 * n) ≤ 1 + 2 * n
      go true c = omega arith
      go false true = omega arith
      go false false = omega arith

  pub choice-next : (F : Face ℕ) (fs : List (Face ℕ)) → choice low high (F ∷ fs) ≡ with_bit low high F (choice low high fs)
  unfolding choice with_bit
  choice-next F fs = go (holds low F) refl
    where
      go : (b : Bool) → holds low F ≡ b → choice low high (F ∷ fs) ≡ cond b (choice low high fs) (cond (on_diagonal high (lowest_first F)) 1 0 + 2 * choice low high fs)
      go true e = rw e
      go false e = rw e

  pub choice-none : 0 ≡ choice low high []
  unfolding choice
  choice-none = refl

  -- the greatest number of so many binary digits
  abbrev most : ℕ → ℕ
  most zero = 0
  most (suc n) = 1 + 2 * most n

  choice_most : (fs : List (Face ℕ)) → choice low high fs ≤ most (length fs)
  choice_most [] = omega (arith, choice-none)
  choice_most (F ∷ fs) = omega (arith, choice-next F fs, bit_most F (choice low high fs), choice_most fs)

  most-le : (m n : ℕ) → m ≤ n → most m ≤ most n
  most-le zero n h = omega arith
  most-le (suc m) zero h = absurd (omega arith)
  most-le (suc m) (suc n) h = omega (arith, most-le m n (omega arith))

  -- the choice of the faces of a hexahedron from i on
  module _ (vs : List ℕ) (i : ℕ) where
    pub choice-few : {n : ℕ} → n ≡ choice low high (drop i (faces_of (element Hexahedron vs))) → n < 64
    choice-few e =
        let fs : List (Face ℕ) = drop i (faces_of (element Hexahedron vs)) in
        let few : length fs ≤ 6 = omega (arith, length-drop i (faces_of (element Hexahedron vs))) in
        omega (arith, e, choice_most fs, most-le (length fs) 6 few)

    module _ (h : 0 < i) (up : i ≤ 6) where
      pub choice-step : {F : Face ℕ} → F ≡ get_or (faces_of (element Hexahedron vs)) (i - 1) (three 0 0 0) → {n : ℕ} → n ≡ choice low high (drop i (faces_of (element Hexahedron vs)))
          → with_bit low high F n ≡ choice low high (drop (i - 1) (faces_of (element Hexahedron vs)))
      choice-step {F} f e =
          let s : suc (i - 1) ≡ i = omega arith in
          ap (with_bit low high F) e
          ∙ sym (choice-next F (drop i (faces_of (element Hexahedron vs))))
          ∙ ap (choice low high) (sym (faces_from Hexahedron vs (i - 1) (omega arith) f ∙ ap (λ (j : ℕ). F ∷ drop j (faces_of (element Hexahedron vs))) s))
