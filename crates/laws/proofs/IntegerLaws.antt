-- The integers are a commutative ring, and an equation of sums and differences of integers is one of naturals, which omega decides.
-- Assumes nothing.
use mathlib.Core.Path.{◌≡◌, refl, sym, ap, ◌∙◌}
use Prim.Native.Nat.{ℕ, zero, suc, ◌+◌, ◌*◌}
use native.Mathlib.Omega.{arith}
use lib.IntN.{ℤ, pos, negsuc, suc_ℤ, pred_ℤ, neg_ℤ, ◌+ℤ◌, ◌-ℤ◌, ◌*ℤ◌, neg_ℤ-neg_ℤ, neg_ℤ-+ℤ, +ℤ_idl, +ℤ_idr, +ℤ_assoc, +ℤ_comm, +ℤ_invr, suc_ℤ-+ℤ, pred_ℤ-+ℤ, zero-*ℤ, suc_ℤ-*ℤ, pred_ℤ-*ℤ, *ℤ_comm}

-- ---- sums and differences: z is the natural p less the natural n

pub record Less (p n : ℕ) (z : ℤ) : Type 0 where
  pub is : z ≡ pos p -ℤ pos n

interchange : (a b c d : ℤ) → (a +ℤ b) +ℤ (c +ℤ d) ≡ (a +ℤ c) +ℤ (b +ℤ d)
interchange a b c d =
    +ℤ_assoc a b (c +ℤ d)
    ∙ ap (λ (x : ℤ). a +ℤ x) (sym (+ℤ_assoc b c d) ∙ ap (λ (x : ℤ). x +ℤ d) (+ℤ_comm b c) ∙ +ℤ_assoc c b d)
    ∙ sym (+ℤ_assoc a c (b +ℤ d))

less_sum : (p n q m : ℕ) → (pos p -ℤ pos n) +ℤ (pos q -ℤ pos m) ≡ pos (p + q) -ℤ pos (n + m)
less_sum p n q m =
    interchange (pos p) (neg_ℤ (pos n)) (pos q) (neg_ℤ (pos m))
    ∙ ap (λ (x : ℤ). pos (p + q) +ℤ x) (sym (neg_ℤ-+ℤ (pos n) (pos m)))

-- the number above 0 and the number below 0 that make up z
abbrev pub above : ℤ → ℕ
above (pos n) = n
above (negsuc n) = 0

abbrev pub below : ℤ → ℕ
below (pos n) = 0
below (negsuc n) = suc n

pub atom : (z : ℤ) → Less (above z) (below z) z
atom (pos n) = record { is = sym (+ℤ_idr (pos n)) }
atom (negsuc n) = record { is = sym (+ℤ_idl (negsuc n)) }

module _ {p n q m : ℕ} {a b : ℤ} (k : Less p n a) (l : Less q m b) where
  pub less_add : Less (p + q) (n + m) (a +ℤ b)
  less_add = record { is = (λ i. k.is i +ℤ l.is i) ∙ less_sum p n q m }

  -- two integers are equal where the naturals say so
  pub less_same : p + m ≡ q + n → a ≡ b
  less_same e =
      k.is
      ∙ sym (+ℤ_idr (pos p -ℤ pos n))
      ∙ ap (λ (x : ℤ). (pos p -ℤ pos n) +ℤ x) (sym (+ℤ_invr (pos m)))
      ∙ less_sum p n m m
      ∙ (λ i. pos (e i) -ℤ pos (sums i))
      ∙ sym (less_sum q m n n)
      ∙ ap (λ (x : ℤ). (pos q -ℤ pos m) +ℤ x) (+ℤ_invr (pos n))
      ∙ +ℤ_idr (pos q -ℤ pos m)
      ∙ sym l.is
    where
      sums : n + m ≡ m + n
      sums = omega arith

pub less_neg : {p n : ℕ} {a : ℤ} → Less p n a → Less n p (neg_ℤ a)
less_neg {p} {n} k =
    record {
      is =
          ap neg_ℤ k.is
          ∙ neg_ℤ-+ℤ (pos p) (neg_ℤ (pos n))
          ∙ ap (λ (x : ℤ). neg_ℤ (pos p) +ℤ x) (neg_ℤ-neg_ℤ (pos n))
          ∙ +ℤ_comm (neg_ℤ (pos p)) (pos n);
    }

pub less_sub : {p n q m : ℕ} {a b : ℤ} → Less p n a → Less q m b → Less (p + m) (n + q) (a -ℤ b)
less_sub k l = less_add k (less_neg l)

-- ---- products

neg_mul : (a b : ℤ) → neg_ℤ a *ℤ b ≡ neg_ℤ (a *ℤ b)
neg_mul (pos zero) b = zero-*ℤ b ∙ ap neg_ℤ (sym (zero-*ℤ b))
neg_mul (pos (suc n)) (pos m) = refl
neg_mul (pos (suc n)) (negsuc m) = sym (neg_ℤ-neg_ℤ (pos (suc n * suc m)))
neg_mul (negsuc n) (pos m) = sym (neg_ℤ-neg_ℤ (pos (suc n * m)))
neg_mul (negsuc n) (negsuc m) = refl

module _ (b c : ℤ) where
  -- a step up or down of the first factor
  up : (a : ℤ) → (a +ℤ b) *ℤ c ≡ a *ℤ c +ℤ b *ℤ c → (suc_ℤ a +ℤ b) *ℤ c ≡ suc_ℤ a *ℤ c +ℤ b *ℤ c
  up a h =
      ap (λ (x : ℤ). x *ℤ c) (suc_ℤ-+ℤ a b)
      ∙ suc_ℤ-*ℤ (a +ℤ b) c
      ∙ ap (λ (x : ℤ). x +ℤ c) h
      ∙ less_same (less_add (less_add (atom (a *ℤ c)) (atom (b *ℤ c))) (atom c)) (less_add (less_add (atom (a *ℤ c)) (atom c)) (atom (b *ℤ c))) (omega arith)
      ∙ ap (λ (x : ℤ). x +ℤ b *ℤ c) (sym (suc_ℤ-*ℤ a c))

  down : (a : ℤ) → (a +ℤ b) *ℤ c ≡ a *ℤ c +ℤ b *ℤ c → (pred_ℤ a +ℤ b) *ℤ c ≡ pred_ℤ a *ℤ c +ℤ b *ℤ c
  down a h =
      ap (λ (x : ℤ). x *ℤ c) (pred_ℤ-+ℤ a b)
      ∙ pred_ℤ-*ℤ (a +ℤ b) c
      ∙ ap (λ (x : ℤ). x -ℤ c) h
      ∙ less_same (less_sub (less_add (atom (a *ℤ c)) (atom (b *ℤ c))) (atom c)) (less_add (less_sub (atom (a *ℤ c)) (atom c)) (atom (b *ℤ c))) (omega arith)
      ∙ ap (λ (x : ℤ). x +ℤ b *ℤ c) (sym (pred_ℤ-*ℤ a c))

  zero_distributes : (pos 0 +ℤ b) *ℤ c ≡ pos 0 *ℤ c +ℤ b *ℤ c
  zero_distributes = ap (λ (x : ℤ). x *ℤ c) (+ℤ_idl b) ∙ sym (+ℤ_idl (b *ℤ c)) ∙ ap (λ (x : ℤ). x +ℤ b *ℤ c) (sym (zero-*ℤ c))

pub add_mul : (a b c : ℤ) → (a +ℤ b) *ℤ c ≡ a *ℤ c +ℤ b *ℤ c
add_mul (pos zero) b c = zero_distributes b c
add_mul (pos (suc n)) b c = up b c (pos n) (add_mul (pos n) b c)
add_mul (negsuc zero) b c = down b c (pos 0) (zero_distributes b c)
add_mul (negsuc (suc n)) b c = down b c (negsuc n) (add_mul (negsuc n) b c)

pub sub_mul : (a b c : ℤ) → (a -ℤ b) *ℤ c ≡ a *ℤ c -ℤ b *ℤ c
sub_mul a b c = add_mul a (neg_ℤ b) c ∙ ap (λ (x : ℤ). a *ℤ c +ℤ x) (neg_mul b c)

pub mul_sub : (a b c : ℤ) → a *ℤ (b -ℤ c) ≡ a *ℤ b -ℤ a *ℤ c
mul_sub a b c = *ℤ_comm a (b -ℤ c) ∙ sub_mul b c a ∙ (λ i. *ℤ_comm b a i -ℤ *ℤ_comm c a i)

assoc_up : (n : ℕ) (b c : ℤ) → (pos n *ℤ b) *ℤ c ≡ pos n *ℤ (b *ℤ c)
assoc_up zero b c = ap (λ (x : ℤ). x *ℤ c) (zero-*ℤ b) ∙ zero-*ℤ c ∙ sym (zero-*ℤ (b *ℤ c))
assoc_up (suc n) b c =
    ap (λ (x : ℤ). x *ℤ c) (suc_ℤ-*ℤ (pos n) b)
    ∙ add_mul (pos n *ℤ b) b c
    ∙ ap (λ (x : ℤ). x +ℤ b *ℤ c) (assoc_up n b c)
    ∙ sym (suc_ℤ-*ℤ (pos n) (b *ℤ c))

pub mul_assoc : (a b c : ℤ) → (a *ℤ b) *ℤ c ≡ a *ℤ (b *ℤ c)
mul_assoc (pos n) b c = assoc_up n b c
mul_assoc (negsuc n) b c =
    let p : ℤ = pos (suc n) in
    ap (λ (x : ℤ). x *ℤ c) (neg_mul p b)
    ∙ neg_mul (p *ℤ b) c
    ∙ ap neg_ℤ (assoc_up (suc n) b c)
    ∙ sym (neg_mul p (b *ℤ c))

-- the first two of three factors exchanged
pub mul_swap : (a b c : ℤ) → a *ℤ (b *ℤ c) ≡ b *ℤ (a *ℤ c)
mul_swap a b c = sym (mul_assoc a b c) ∙ ap (λ (x : ℤ). x *ℤ c) (*ℤ_comm a b) ∙ mul_assoc b a c
