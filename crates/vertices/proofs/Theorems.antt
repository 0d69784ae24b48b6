-- What is promised of the vertex table, in the words of specs/ alone. A reader starts here.
-- Assumes nothing.
use mathlib.Core.Path.{◌≡◌, sym, ◌∙◌}
use mathlib.Core.List.{List}
use Prim.Native.Nat.{ℕ}
use lib.IntN.{ℤ}
use Rattle.faults.specs.declared.Refusal.{Refusal}
use Rattle.std.specs.Prelude.{Result, Ok, Err}
use Rattle.faults.specs.Refusals.{accepted, refused, ruled}
use Rattle.faults.proofs.RefusalLaws as R
use Rattle.volume.specs.declared.Point.{Point}
use Rattle.volume.specs.Volume.{point_at}
use Rattle.vertices.specs.Vertices.{vertices_judged, Ranged}
use Rattle.vertices.proofs.VertexLaws as L

-- ---- two answers that a contract allows are equal

-- `point_at`
pub point_unique : (table : List ℤ) (v : ℕ) (p q : Point) → p ≡ point_at table v → q ≡ point_at table v → p ≡ q
point_unique table v p q e f = e ∙ sym f

-- `judge_vertices`
pub vertices_unique : (table : List ℤ) (n : ℕ) (r s : Result (Unit {0}) Refusal) → r ≡ ruled (vertices_judged table n) → s ≡ ruled (vertices_judged table n) → r ≡ s
vertices_unique table n r s e f = e ∙ sym f

-- ---- what a judged table is

-- accepted exactly where n vertices stand in it, each within the limits; and then it is the table itself
pub accepted-ranged : (table : List ℤ) (n : ℕ) {points : List ℤ} → vertices_judged table n ≡ accepted points → (points ≡ table) × Ranged table n
accepted-ranged = L.accepted-ranged

pub ranged-accepted : (table : List ℤ) (n : ℕ) → Ranged table n → vertices_judged table n ≡ accepted table
ranged-accepted = L.ranged-accepted

-- the ruling tells it
pub ruled-refused : (table : List ℤ) (n : ℕ) {x : Refusal} → ruled (vertices_judged table n) ≡ Err x → vertices_judged table n ≡ refused x
ruled-refused table n {x} = R.ruled-refused (vertices_judged table n) x

pub ruled_passed : (table : List ℤ) (n : ℕ) → ruled (vertices_judged table n) ≡ Ok tt → Ranged table n
ruled_passed table n e = (L.accepted-ranged table n (R.ruled_passed (vertices_judged table n) e).1).1
