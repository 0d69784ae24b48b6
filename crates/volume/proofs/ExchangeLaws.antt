-- Two rows exchanged change the sign of the determinant: it is a sum of six products, each of one number of each row. Assumes nothing.
use mathlib.Core.Path.{◌≡◌, sym, ap, ◌∙◌}
use native.Mathlib.Omega.{arith}
use lib.IntN.{ℤ, neg_ℤ, ◌+ℤ◌, ◌-ℤ◌, ◌*ℤ◌, *ℤ_comm}
use Rattle.laws.proofs.IntegerLaws.{atom, less_add, less_sub, less_neg, less_same, mul_sub, mul_swap}
use Rattle.volume.specs.Volume.{Row}
use Rattle.volume.specs.Volume.{minor, determinant}

-- six products, three of them taken away
abbrev six : ℤ → ℤ → ℤ → ℤ → ℤ → ℤ → ℤ
six a b c d e f = (a -ℤ b) -ℤ (c -ℤ d) +ℤ (e -ℤ f)

module _ (a b c d e f : ℤ) where
  six_first : six c e a f b d ≡ neg_ℤ (six a b c d e f)
  six_first =
      less_same
      (less_add (less_sub (less_sub (atom c) (atom e)) (less_sub (atom a) (atom f))) (less_sub (atom b) (atom d)))
      (less_neg (less_add (less_sub (less_sub (atom a) (atom b)) (less_sub (atom c) (atom d))) (less_sub (atom e) (atom f))))
      (omega arith)

  six_last : six b a d c f e ≡ neg_ℤ (six a b c d e f)
  six_last =
      less_same
      (less_add (less_sub (less_sub (atom b) (atom a)) (less_sub (atom d) (atom c))) (less_sub (atom f) (atom e)))
      (less_neg (less_add (less_sub (less_sub (atom a) (atom b)) (less_sub (atom c) (atom d))) (less_sub (atom e) (atom f))))
      (omega arith)

-- the six products, by what they take of the first, the second and the third row
module _ (u v w : Row) where
  abbrev xyz : ℤ
  xyz = u.x *ℤ (v.y *ℤ w.z)

  abbrev xzy : ℤ
  xzy = u.x *ℤ (v.z *ℤ w.y)

  abbrev yxz : ℤ
  yxz = u.y *ℤ (v.x *ℤ w.z)

  abbrev yzx : ℤ
  yzx = u.y *ℤ (v.z *ℤ w.x)

  abbrev zxy : ℤ
  zxy = u.z *ℤ (v.x *ℤ w.y)

  abbrev zyx : ℤ
  zyx = u.z *ℤ (v.y *ℤ w.x)

-- the determinant is their sum
abbrev products : Row → Row → Row → ℤ
products u v w = six (xyz u v w) (xzy u v w) (yxz u v w) (yzx u v w) (zxy u v w) (zyx u v w)

spread : (u v w : Row) → determinant u v w ≡ products u v w
unfolding determinant minor
spread u v w =
    λ i. mul_sub u.x (v.y *ℤ w.z) (v.z *ℤ w.y) i
    -ℤ mul_sub u.y (v.x *ℤ w.z) (v.z *ℤ w.x) i
    +ℤ mul_sub u.z (v.x *ℤ w.y) (v.y *ℤ w.x) i

module _ (u v w : Row) where
  first_two : products v u w ≡ neg_ℤ (products u v w)
  first_two =
      (λ i. six
      (mul_swap v.x u.y w.z i)
      (mul_swap v.x u.z w.y i)
      (mul_swap v.y u.x w.z i)
      (mul_swap v.y u.z w.x i)
      (mul_swap v.z u.x w.y i)
      (mul_swap v.z u.y w.x i))
      ∙ six_first (xyz u v w) (xzy u v w) (yxz u v w) (yzx u v w) (zxy u v w) (zyx u v w)

  last_two : products u w v ≡ neg_ℤ (products u v w)
  last_two =
      (λ i. six
      (u.x *ℤ *ℤ_comm w.y v.z i)
      (u.x *ℤ *ℤ_comm w.z v.y i)
      (u.y *ℤ *ℤ_comm w.x v.z i)
      (u.y *ℤ *ℤ_comm w.z v.x i)
      (u.z *ℤ *ℤ_comm w.x v.y i)
      (u.z *ℤ *ℤ_comm w.y v.x i))
      ∙ six_last (xyz u v w) (xzy u v w) (yxz u v w) (yzx u v w) (zxy u v w) (zyx u v w)

  pub first_rows_exchanged : determinant v u w ≡ neg_ℤ (determinant u v w)
  first_rows_exchanged = spread v u w ∙ first_two ∙ ap neg_ℤ (sym (spread u v w))

  pub last_rows_exchanged : determinant u w v ≡ neg_ℤ (determinant u v w)
  last_rows_exchanged = spread u w v ∙ last_two ∙ ap neg_ℤ (sym (spread u v w))
