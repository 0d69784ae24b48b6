-- What tables the sign report accepts: judging accepts the elements, the vertex table is long enough, and its points are within the limits.
-- Assumes nothing.
use mathlib.Core.Path.{◌≡◌, refl}
use mathlib.Core.Bool.{true}
use mathlib.Core.List.{List}
use Prim.Native.Nat.{ℕ, ◌+◌, ◌*◌, ◌≤◌, ◌<◌}
use native.Mathlib.Omega.{arith}
use lib.IntN.{ℤ}
use lib.ListN.{length}
use Rattle.limits.specs.Limits.{element_limit, vertex_limit, vertex_width, element_width}
use Rattle.std.specs.Prelude.{Ok}
use Rattle.faults.specs.Refusals.{Verdict, accepted, refused, and_then}
use Rattle.volume.specs.Volume.{point_in_range, point_at}
use Rattle.solids.specs.Solids.{Element}
use Rattle.records.specs.Record.{record_finding, record_at}
use Rattle.judging.specs.Judge.{judged}
use Rattle.judging.proofs.Theorems.{accepted_acceptable}
use Rattle.vertices.specs.Vertices.{vertices_judged, Ranged}
use Rattle.vertices.proofs.Theorems.{accepted-ranged}
use Rattle.signs.specs.Signs.{sign_counts, signs_of, is_accepted, accepted_tables}

-- the counts are within the limits, both tables are long enough, each point is within the limits, no record has a fault
pub record SignAccepted (v n : ℕ) (t : List ℕ) (table : List ℤ) : Type 0 where
  pub vertices : v ≤ vertex_limit
  pub elements : n ≤ element_limit
  pub vertex_room : vertex_width * v ≤ length table
  pub element_room : element_width * n ≤ length t
  pub ranged : (k : ℕ) → k < v → point_in_range (point_at table (k + 1)) ≡ true
  pub clean : (k : ℕ) → k < n → record_finding v (record_at t k) ≡ Ok tt

-- what an accepted report is: the elements and the vertex table are accepted, and these are the counts
pub record Reported (v n : ℕ) (t : List ℕ) (table : List ℤ) (counts : List ℕ) : Type 0 where
  pub elements : List Element
  pub accepts : judged v n t ≡ accepted elements
  pub ranged : Ranged table v
  pub are : counts ≡ sign_counts table elements

pub reported : (v n : ℕ) (t : List ℕ) (table : List ℤ) (counts : List ℕ) → accepted counts ≡ signs_of v n t table → Reported v n t table counts
unfolding signs_of
reported v n t table counts = go (judged v n t) (vertices_judged table v) refl refl
  where
    go : (j : Verdict (List Element)) (p : Verdict (List ℤ)) → judged v n t ≡ j → vertices_judged table v ≡ p
        → accepted counts ≡ and_then j (λ es. and_then p λ points. accepted (sign_counts points es)) → Reported v n t table counts
    go (accepted es) (accepted points) q r e =
        let a = accepted-ranged table v r in
        record { elements = es; accepts = q; ranged = a.1; are = rw a.0 at (let z : counts ≡ sign_counts points es = cc in z) }
    go (accepted es) (refused x) q r e = let z : ◌≡◌ {A = ℕ} 0 1 = cc in absurd (omega arith)
    go (refused x) p q r e = let z : ◌≡◌ {A = ℕ} 0 1 = cc in absurd (omega arith)

pub sign_accepted : (v n : ℕ) (t : List ℕ) (table : List ℤ) → accepted_tables v n t table ≡ true → SignAccepted v n t table
unfolding accepted_tables
sign_accepted v n t table h = by (signs_of v n t table) refl h
  where
    by : (x : Verdict (List ℕ)) → x ≡ signs_of v n t table → is_accepted x ≡ true → SignAccepted v n t table
    by (accepted counts) e h =
        let p = reported v n t table counts e in
        let a = accepted_acceptable v n t p.elements p.accepts in
        record {
          vertices = a.vertices;
          elements = a.elements;
          vertex_room = p.ranged.long;
          element_room = a.long;
          ranged = p.ranged.each;
          clean = a.clean;
        }
    by (refused r) e h = let z : ◌≡◌ {A = ℕ} 0 1 = cc in absurd (omega arith)
