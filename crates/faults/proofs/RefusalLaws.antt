-- Tests one after the other: what a test did not refuse, and what comes after several of them.
-- Assumes nothing.
use mathlib.Core.Path.{◌≡◌, refl, ap}
use mathlib.Core.Bool.{Bool, true, false}
use Prim.Native.Nat.{ℕ}
use native.Mathlib.Omega.{arith}
use Rattle.faults.specs.declared.Refusal.{Refusal}
use Rattle.std.specs.Prelude.{Ok, Err}
use Rattle.faults.specs.Refusals.{Verdict, accepted, refused, refuse_if, ruled, and_then}

-- what a test did not refuse passed it, and is what came next
pub record Passed {A : Type 0} (b : Bool) (next y : Verdict A) : Type 0 where
  pub no : b ≡ false
  pub rest : next ≡ y

pub passed : {A : Type 0} (b : Bool) (r : Refusal) (next y : Verdict A) → (refused r ≡ y → ⊥) → refuse_if b r next ≡ y → Passed b next y
passed true r next y other e = absurd (other e)
passed false r next y other e = record { no = refl; rest = e }

-- a refusal is no acceptance
pub not-accepted : {A : Type 0} (r : Refusal) (x : A) → refused r ≡ accepted x → ⊥
not-accepted r x e = let z : ◌≡◌ {A = ℕ} 0 1 = cc in omega arith

-- a test before several is a test before all that comes after them
pub then_if : {A B : Type 0} (b : Bool) (r : Refusal) (next : Verdict A) (f : A → Verdict B) → and_then (refuse_if b r next) f ≡ refuse_if b r (and_then next f)
then_if true r next f = refl
then_if false r next f = refl

-- a ruling tells its verdict: the refusal, or that there is none
pub ruled-refused : {A : Type 0} (w : Verdict A) (x : Refusal) → ruled w ≡ Err x → w ≡ refused x
ruled-refused (accepted y) x e = absurd (let z : ◌≡◌ {A = ℕ} 0 1 = cc in omega arith)
ruled-refused (refused y) x e = ap refused (let z : y ≡ x = cc in z)

pub ruled_passed : {A : Type 0} (w : Verdict A) → ruled w ≡ Ok tt → (y : A) × (w ≡ accepted y)
ruled_passed (accepted y) e = (y, refl)
ruled_passed (refused y) e = absurd (let z : ◌≡◌ {A = ℕ} 0 1 = cc in omega arith)
