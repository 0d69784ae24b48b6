-- `numbers::scan::find` finds a byte. Assumes nothing.
use Prim.Native.Nat.{ℕ, ◌+◌, ◌<◌, ◌≤◌}
use native.Mathlib.Nat.{le_refl}
use native.Mathlib.Omega.{arith}
use mathlib.Core.Path.{◌≡◌, refl}
use mathlib.Core.Bool.{false}
use mathlib.Core.List.{List}
use mathlib.Core.Logic.{⊎_elim}
use lib.ListN.{length, get_or}
use borrow.Author.Tests.{eq-eqb, ne_eqb, lt-ltb, le-ltb}
use Rattle.std.specs.Prelude.{Some, None, position, ◌==◌}
use Rattle.std.proofs.lemmas.Bool.{cases_lt}
use Rattle.std.proofs.lemmas.List.Sums.{position_or_len_is}
use Rattle.numbers.proofs.scan.find.Goals as goal

module _ (b : ℕ) (t : List ℕ) where
  here : (i : ℕ) → i < length t → get_or t i 0 ≡ b → ((k : ℕ) → k < i → (get_or t k 0 == b) ≡ false) → Some i ≡ position (λ x. x == b) t
  here i h e f =
      rw (position_or_len_is (λ x. x == b) t i 0 (omega arith) f (λ l. eq-eqb _ _ e), lt-ltb _ _ h) refl

  further : (i : ℕ) → (get_or t i 0 ≡ b → ⊥) → ((k : ℕ) → k < i → (get_or t k 0 == b) ≡ false) → (k : ℕ) → k < i + 1 → (get_or t k 0 == b) ≡ false
  further i n f k l = ⊎_elim (λ h. f k h) (λ h. let e : k ≡ i = omega arith in ne_eqb _ _ (rw e n)) (cases_lt k i)

  nowhere : (i : ℕ) → length t ≤ i → ((k : ℕ) → k < i → (get_or t k 0 == b) ≡ false) → None ≡ position (λ x. x == b) t
  nowhere i h f =
      rw (position_or_len_is (λ x. x == b) t (length t) 0 (le_refl _) (λ k l. f k (omega arith)) (λ l. absurd (omega arith)), le-ltb _ _ (le_refl (length t))) refl

pub loop-i-init : goal.loop-i-init
loop-i-init c = λ k l. absurd (omega arith)

pub returns-then-x-b : goal.returns-then-x-b
returns-then-x-b c = here _ _ _ c.loop-i-test.true c.if-x-b.true c.loop-i.invariant

pub loop-i-preserved : goal.loop-i-preserved
loop-i-preserved c = further _ _ _ c.if-x-b.false c.loop-i.invariant

pub returns : goal.returns
returns c = nowhere _ _ _ (omega (arith, c.loop-i-test.false)) c.loop-i.invariant
