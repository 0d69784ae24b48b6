-- A tetrahedron as one number: the number gives the tetrahedron back, and numbers compare as tetrahedra do.
-- Assumes nothing.
use mathlib.Core.Path.{◌≡◌, refl, sym, ◌∙◌}
use mathlib.Core.Bool.{Bool, true, false, cond}
use mathlib.Core.List.{List, [], ◌∷◌}
use mathlib.Core.Logic.{◌≢◌}
use Prim.Native.Nat.{ℕ, ◌+◌, ◌*◌, ◌/◌, ◌%◌, ◌<◌}
use native.Mathlib.Omega.{arith}
use lib.Dec.{ltb, leb}
use borrow.Author.Tests.{eq-eqb, ne_eqb, lt-ltb, le-ltb, le-leb, lt-leb}
use Rattle.solids.specs.Solids.{tet, of_tet}
use Rattle.solids.specs.Cut.{up_to}
use Rattle.solids.proofs.AscendingLaws.{Three, less, same, more, three}
use Rattle.tets.specs.Tets.{key_of, keyed}

-- number by number: where two differ they decide, where they are equal the next do
itself : (b : Bool) → cond b true false ≡ b
itself true = refl
itself false = refl

module _ (x y : ℕ) (xs ys : List ℕ) where
  agree : x ≡ y → up_to (x ∷ xs) (y ∷ ys) ≡ up_to xs ys
  agree h = simp (le-ltb x y (omega arith), eq-eqb x y h)

  differ : x ≢ y → up_to (x ∷ xs) (y ∷ ys) ≡ ltb x y
  differ h = simp (ne_eqb x y h) (itself (ltb x y))

  below : x < y → up_to (x ∷ xs) (y ∷ ys) ≡ true
  below h = differ (λ e. omega arith) ∙ lt-ltb x y h

  above : y < x → up_to (x ∷ xs) (y ∷ ys) ≡ false
  above h = differ (λ e. omega arith) ∙ le-ltb x y (omega arith)

-- four digits
abbrev packed : ℕ → ℕ → ℕ → ℕ → ℕ
packed a b c d = ((a * 65536 + b) * 65536 + c) * 65536 + d

module _ (a b c d : ℕ) (hb : b < 65536) (hc : c < 65536) (hd : d < 65536) where
  pub keyed_packed : keyed (packed a b c d) ≡ tet a b c d
  unfolding keyed
  keyed_packed =
      let x : packed a b c d / 65536 ≡ (a * 65536 + b) * 65536 + c = omega arith in
      let y : ((a * 65536 + b) * 65536 + c) / 65536 ≡ a * 65536 + b = omega arith in
      let z : (a * 65536 + b) / 65536 ≡ a = omega arith in
      let p : packed a b c d % 65536 ≡ d = omega arith in
      let q : ((a * 65536 + b) * 65536 + c) % 65536 ≡ c = omega arith in
      let r : (a * 65536 + b) % 65536 ≡ b = omega arith in
      rw (x, y, z, p, q, r)

-- the digits of a number
record Digits (k a b c d : ℕ) : Type 0 where
  value : k ≡ packed a b c d
  small_b : b < 65536
  small_c : c < 65536
  small_d : d < 65536

digits : (k : ℕ) → Digits k (k / 65536 / 65536 / 65536) (k / 65536 / 65536 % 65536) (k / 65536 % 65536) (k % 65536)
digits k = record { value = omega arith; small_b = omega arith; small_c = omega arith; small_d = omega arith }

module _ {k a b c d l p q r s : ℕ} (x : Digits k a b c d) (y : Digits l p q r s) where
  at_d : a ≡ p → b ≡ q → c ≡ r → up_to (d ∷ []) (s ∷ []) ≡ leb k l
  at_d e f g = go (three d s)
    where
      go : Three d s → up_to (d ∷ []) (s ∷ []) ≡ leb k l
      go (less h) = below d s [] [] h ∙ sym (le-leb k l (omega (arith, x.value, y.value)))
      go (same h) = agree d s [] [] h ∙ sym (le-leb k l (omega (arith, x.value, y.value)))
      go (more h) = above d s [] [] h ∙ sym (lt-leb k l (omega (arith, x.value, y.value)))

  at_c : a ≡ p → b ≡ q → up_to (c ∷ d ∷ []) (r ∷ s ∷ []) ≡ leb k l
  at_c e f = go (three c r)
    where
      go : Three c r → up_to (c ∷ d ∷ []) (r ∷ s ∷ []) ≡ leb k l
      go (less h) = below c r (d ∷ []) (s ∷ []) h ∙ sym (le-leb k l (omega (arith, x.value, y.value, x.small_d)))
      go (same h) = agree c r (d ∷ []) (s ∷ []) h ∙ at_d e f h
      go (more h) = above c r (d ∷ []) (s ∷ []) h ∙ sym (lt-leb k l (omega (arith, x.value, y.value, y.small_d)))

  at_b : a ≡ p → up_to (b ∷ c ∷ d ∷ []) (q ∷ r ∷ s ∷ []) ≡ leb k l
  at_b e = go (three b q)
    where
      go : Three b q → up_to (b ∷ c ∷ d ∷ []) (q ∷ r ∷ s ∷ []) ≡ leb k l
      go (less h) = below b q (c ∷ d ∷ []) (r ∷ s ∷ []) h ∙ sym (le-leb k l (omega (arith, x.value, y.value, x.small_c, x.small_d)))
      go (same h) = agree b q (c ∷ d ∷ []) (r ∷ s ∷ []) h ∙ at_c e h
      go (more h) = above b q (c ∷ d ∷ []) (r ∷ s ∷ []) h ∙ sym (lt-leb k l (omega (arith, x.value, y.value, y.small_c, y.small_d)))

  at_a : up_to (a ∷ b ∷ c ∷ d ∷ []) (p ∷ q ∷ r ∷ s ∷ []) ≡ leb k l
  at_a = go (three a p)
    where
      go : Three a p → up_to (a ∷ b ∷ c ∷ d ∷ []) (p ∷ q ∷ r ∷ s ∷ []) ≡ leb k l
      go (less h) = below a p (b ∷ c ∷ d ∷ []) (q ∷ r ∷ s ∷ []) h ∙ sym (le-leb k l (omega (arith, x.value, y.value, x.small_b, x.small_c, x.small_d)))
      go (same h) = agree a p (b ∷ c ∷ d ∷ []) (q ∷ r ∷ s ∷ []) h ∙ at_b h
      go (more h) = above a p (b ∷ c ∷ d ∷ []) (q ∷ r ∷ s ∷ []) h ∙ sym (lt-leb k l (omega (arith, x.value, y.value, y.small_b, y.small_c, y.small_d)))

pub keys_compare : (k l : ℕ) → up_to (of_tet (keyed k)) (of_tet (keyed l)) ≡ leb k l
unfolding keyed
keys_compare k l = at_a (digits k) (digits l)

-- the key of a key's tetrahedron is the key
pub key_again : (k : ℕ) → key_of (keyed k) ≡ k
unfolding key_of keyed
key_again k = omega arith

-- and of digits below the base the key tells the tetrahedron
pub keyed-again : (a b c d : ℕ) → b < 65536 → c < 65536 → d < 65536 → keyed (key_of (tet a b c d)) ≡ tet a b c d
unfolding key_of
keyed-again = keyed_packed
