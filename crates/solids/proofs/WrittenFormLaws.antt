-- The written form of a tetrahedron is the same for all its even reorderings.
-- Assumes nothing.
use mathlib.Core.Path.{◌≡◌, refl, sym, ◌∙◌, ap}
use mathlib.Core.Bool.{Bool, true, false, cond}
use mathlib.Core.List.{[], ◌∷◌}
use mathlib.Core.Logic.{◌≢◌}
use Prim.Native.Nat.{ℕ, ◌<◌}
use native.Mathlib.Omega.{arith}
use lib.Dec.{eqb}
use borrow.Author.Tests.{eq-eqb, ne_eqb}
use Rattle.laws.specs.Words.{lowest}
use Rattle.solids.specs.Solids.{Tet, tet, on_tet}
use Rattle.solids.specs.Cut.{first_lowest, second_lowest, written}
use Rattle.solids.proofs.AscendingLaws.{Three, less, same, more, three}

pub record Apart (a b c d : ℕ) : Type 0 where
  pub ab : a ≢ b
  pub ac : a ≢ c
  pub ad : a ≢ d
  pub bc : b ≢ c
  pub bd : b ≢ d
  pub cd : c ≢ d

-- the lowest of four
pub data Least (a b c d : ℕ) : Type 0 where
  first : a < b → a < c → a < d → Least a b c d
  second : b < a → b < c → b < d → Least a b c d
  third : c < a → c < b → c < d → Least a b c d
  fourth : d < a → d < b → d < c → Least a b c d

pub least : {a b c d : ℕ} → Apart a b c d → Least a b c d
least {a} {b} {c} {d} h = go (three a b) (three c d) (three a c) (three a d) (three b c) (three b d)
  where
    go : Three a b → Three c d → Three a c → Three a d → Three b c → Three b d → Least a b c d
    go (same p) q r s t u = absurd (h.ab p)
    go (less p) (same q) r s t u = absurd (h.cd q)
    go (less p) (less q) (same r) s t u = absurd (h.ac r)
    go (less p) (less q) (less r) s t u = first p r (omega arith)
    go (less p) (less q) (more r) s t u = third r (omega arith) q
    go (less p) (more q) r (same s) t u = absurd (h.ad s)
    go (less p) (more q) r (less s) t u = first p (omega arith) s
    go (less p) (more q) r (more s) t u = fourth s (omega arith) q
    go (more p) (same q) r s t u = absurd (h.cd q)
    go (more p) (less q) r s (same t) u = absurd (h.bc t)
    go (more p) (less q) r s (less t) u = second p t (omega arith)
    go (more p) (less q) r s (more t) u = third (omega arith) t q
    go (more p) (more q) r s t (same u) = absurd (h.bd u)
    go (more p) (more q) r s t (less u) = second p (omega arith) u
    go (more p) (more q) r s t (more u) = fourth (omega arith) u q

first_a : (a b c d : ℕ) → a < b → a < c → a < d → first_lowest (tet a b c d) ≡ tet a b c d
first_a a b c d p q r = simp (eq-eqb a (lowest (a ∷ b ∷ c ∷ d ∷ [])) (omega arith))

first_b : (a b c d : ℕ) → b < a → b < c → b < d → first_lowest (tet a b c d) ≡ tet b a d c
first_b a b c d p q r = simp (ne_eqb a (lowest (a ∷ b ∷ c ∷ d ∷ [])) (omega arith), eq-eqb b (lowest (a ∷ b ∷ c ∷ d ∷ [])) (omega arith))

first_c : (a b c d : ℕ) → c < a → c < b → c < d → first_lowest (tet a b c d) ≡ tet c d a b
first_c a b c d p q r =
    simp (ne_eqb a (lowest (a ∷ b ∷ c ∷ d ∷ [])) (omega arith), ne_eqb b (lowest (a ∷ b ∷ c ∷ d ∷ [])) (omega arith), eq-eqb c (lowest (a ∷ b ∷ c ∷ d ∷ [])) (omega arith))

first_d : (a b c d : ℕ) → d < a → d < b → d < c → first_lowest (tet a b c d) ≡ tet d c b a
first_d a b c d p q r =
    simp (ne_eqb a (lowest (a ∷ b ∷ c ∷ d ∷ [])) (omega arith), ne_eqb b (lowest (a ∷ b ∷ c ∷ d ∷ [])) (omega arith), ne_eqb c (lowest (a ∷ b ∷ c ∷ d ∷ [])) (omega arith))

second_b : (a b c d : ℕ) → b < c → b < d → second_lowest (tet a b c d) ≡ tet a b c d
second_b a b c d p q = simp (eq-eqb b (lowest (b ∷ c ∷ d ∷ [])) (omega arith))

second_c : (a b c d : ℕ) → c < b → c < d → second_lowest (tet a b c d) ≡ tet a c d b
second_c a b c d p q = simp (ne_eqb b (lowest (b ∷ c ∷ d ∷ [])) (omega arith), eq-eqb c (lowest (b ∷ c ∷ d ∷ [])) (omega arith))

second_d : (a b c d : ℕ) → d < b → d < c → second_lowest (tet a b c d) ≡ tet a d b c
second_d a b c d p q = simp (ne_eqb b (lowest (b ∷ c ∷ d ∷ [])) (omega arith), ne_eqb c (lowest (b ∷ c ∷ d ∷ [])) (omega arith))

-- the last three turned
turn_second : (a b c d : ℕ) → b ≢ c → b ≢ d → c ≢ d → second_lowest (tet a c d b) ≡ second_lowest (tet a b c d)
turn_second a b c d h k l = go (three b c) (three b d) (three c d)
  where
    go : Three b c → Three b d → Three c d → second_lowest (tet a c d b) ≡ second_lowest (tet a b c d)
    go (same p) q r = absurd (h p)
    go (less p) (same q) r = absurd (k q)
    go (less p) (less q) r = second_d a c d b p q ∙ sym (second_b a b c d p q)
    go (less p) (more q) r = second_c a c d b (omega arith) q ∙ sym (second_d a b c d q (omega arith))
    go (more p) q (same r) = absurd (l r)
    go (more p) q (less r) = second_b a c d b r p ∙ sym (second_c a b c d p r)
    go (more p) q (more r) = second_c a c d b r (omega arith) ∙ sym (second_d a b c d (omega arith) r)

module _ {a b c d : ℕ} (h : Apart a b c d) where
  -- two pairs exchanged
  pub first_pairs : first_lowest (tet b a d c) ≡ first_lowest (tet a b c d)
  first_pairs = go (least h)
    where
      go : Least a b c d → first_lowest (tet b a d c) ≡ first_lowest (tet a b c d)
      go (first p q r) = first_b b a d c p r q ∙ sym (first_a a b c d p q r)
      go (second p q r) = first_a b a d c p r q ∙ sym (first_b a b c d p q r)
      go (third p q r) = first_d b a d c q p r ∙ sym (first_c a b c d p q r)
      go (fourth p q r) = first_c b a d c q p r ∙ sym (first_d a b c d p q r)

  pub first_halves : first_lowest (tet c d a b) ≡ first_lowest (tet a b c d)
  first_halves = go (least h)
    where
      go : Least a b c d → first_lowest (tet c d a b) ≡ first_lowest (tet a b c d)
      go (first p q r) = first_c c d a b q r p ∙ sym (first_a a b c d p q r)
      go (second p q r) = first_d c d a b q r p ∙ sym (first_b a b c d p q r)
      go (third p q r) = first_a c d a b r p q ∙ sym (first_c a b c d p q r)
      go (fourth p q r) = first_b c d a b r p q ∙ sym (first_d a b c d p q r)

  pub first_back : first_lowest (tet d c b a) ≡ first_lowest (tet a b c d)
  first_back = go (least h)
    where
      go : Least a b c d → first_lowest (tet d c b a) ≡ first_lowest (tet a b c d)
      go (first p q r) = first_d d c b a r q p ∙ sym (first_a a b c d p q r)
      go (second p q r) = first_c d c b a r q p ∙ sym (first_b a b c d p q r)
      go (third p q r) = first_b d c b a r q p ∙ sym (first_c a b c d p q r)
      go (fourth p q r) = first_a d c b a r q p ∙ sym (first_d a b c d p q r)

  -- the last three turned
  pub written_turn : written (tet a c d b) ≡ written (tet a b c d)
  written_turn = go (least h)
    where
      go : Least a b c d → written (tet a c d b) ≡ written (tet a b c d)
      go (first p q r) = ap second_lowest (first_a a c d b q r p) ∙ turn_second a b c d h.bc h.bd h.cd ∙ ap second_lowest (sym (first_a a b c d p q r))
      go (second p q r) = ap second_lowest (first_d a c d b p q r) ∙ turn_second b a d c h.ad h.ac (λ e. h.cd (sym e)) ∙ ap second_lowest (sym (first_b a b c d p q r))
      go (third p q r) = ap second_lowest (first_b a c d b p r q) ∙ turn_second c d a b (λ e. h.ad (sym e)) (λ e. h.bd (sym e)) h.ab ∙ ap second_lowest (sym (first_c a b c d p q r))
      go (fourth p q r) = ap second_lowest (first_c a c d b p r q) ∙ turn_second d c b a (λ e. h.bc (sym e)) (λ e. h.ac (sym e)) (λ e. h.ab (sym e)) ∙ ap second_lowest (sym (first_d a b c d p q r))

pub turned_apart : {a b c d : ℕ} → Apart a b c d → Apart a c d b
turned_apart h = record { ab = h.ac; ac = h.ad; ad = h.ab; bc = h.cd; bd = λ e. h.bc (sym e); cd = λ e. h.bd (sym e) }

pub pairs_apart : {a b c d : ℕ} → Apart a b c d → Apart b a d c
pairs_apart h = record { ab = λ e. h.ab (sym e); ac = h.bd; ad = h.bc; bc = h.ad; bd = h.ac; cd = λ e. h.cd (sym e) }

pub halves-apart : {a b c d : ℕ} → Apart a b c d → Apart c d a b
halves-apart h = record { ab = h.cd; ac = λ e. h.ac (sym e); ad = λ e. h.bc (sym e); bc = λ e. h.ad (sym e); bd = λ e. h.bd (sym e); cd = h.ab }

-- one case or the other, under any property
pub either : {A : Type 0} (P : A → Type 0) (b : Bool) {x y : A} → P x → P y → P (cond b x y)
either P true p q = p
either P false p q = q

-- t and u have the same written form, and the four numbers are apart in both
record Alike (f : ℕ → ℕ) (t u : Tet ℕ) : Type 0 where
  form : written (on_tet f u) ≡ written (on_tet f t)

module _ (f : ℕ → ℕ) where
  abbrev pub FApart : Tet ℕ → Type 0
  FApart (tet a b c d) = Apart (f a) (f b) (f c) (f d)

  -- what the second step does is even
  second_even : (t : Tet ℕ) → FApart t → written (on_tet f (second_lowest t)) ≡ written (on_tet f t)
  second_even (tet a b c d) h =
      either P (eqb b (lowest (b ∷ c ∷ d ∷ []))) refl
      (either P (eqb c (lowest (b ∷ c ∷ d ∷ []))) (written_turn h)
      (written_turn (turned_apart h) ∙ written_turn h))
    where
      P : Tet ℕ → Type 0
      P u = written (on_tet f u) ≡ written (on_tet f (tet a b c d))

  first_even : (t : Tet ℕ) → FApart t → (written (on_tet f (first_lowest t)) ≡ written (on_tet f t)) × FApart (first_lowest t)
  first_even (tet a b c d) h =
      either P (eqb a m) (refl, h)
      (either P (eqb b m) (ap second_lowest (first_pairs h), pairs_apart h)
      (either P (eqb c m) (ap second_lowest (first_halves h), halves-apart h)
      (ap second_lowest (first_back h), halves-apart (pairs_apart h))))
    where
      m : ℕ
      m = lowest (a ∷ b ∷ c ∷ d ∷ [])

      P : Tet ℕ → Type 0
      P u = (written (on_tet f u) ≡ written (on_tet f (tet a b c d))) × FApart u

  pub written_even : (t : Tet ℕ) → FApart t → written (on_tet f (written t)) ≡ written (on_tet f t)
  written_even t h = second_even (first_lowest t) (first_even t h).1 ∙ (first_even t h).0
