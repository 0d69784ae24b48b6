-- A vertex table by its two tests: refused for its room, refused for a vertex, or passed; and what a passed one is.
-- Assumes nothing.
use mathlib.Core.Path.{◌≡◌, refl, sym, ap}
use mathlib.Core.Bool.{Bool, true, false, not}
use mathlib.Core.List.{List}
use Prim.Native.Nat.{ℕ, suc, ◌+◌, ◌*◌, ◌-◌, ◌/◌, ◌≤◌, ◌<◌}
use native.Mathlib.Numerals.{add-one}
use native.Mathlib.Omega.{arith}
use lib.Dec.{ltb}
use lib.IntN.{ℤ, pos}
use lib.ListN.{length, get_or-eq_default}
use borrow.Author.Tests.{lt-ltb, le-ltb, ltb-false, not-false}
use Rattle.limits.specs.Limits.{vertex_width}
use Rattle.laws.proofs.SearchLaws.{least_start, least_more, least_found, least_all, least-none}
use Rattle.faults.specs.declared.Fault.TheVariants.{Room, Range}
use Rattle.faults.specs.Refusals.{accepted, refused, refuse, refuse_if}
use Rattle.volume.specs.Volume.{point_in_range, point_at}
use Rattle.vertices.specs.Vertices.{bad_point, vertices_judged, Ranged}

-- a vertex far behind the table's end is of zeros
pub behind_end : (table : List ℤ) (v : ℕ) → length table / 3 < v - 1 → record { x = pos 0; y = pos 0; z = pos 0 } ≡ point_at table v
unfolding point_at
behind_end table v h =
    let x = get_or-eq_default table (pos 0) {n = 3 * (v - 1)} (omega arith) in
    let y = get_or-eq_default table (pos 0) {n = 3 * (v - 1) + 1} (omega arith) in
    let z = get_or-eq_default table (pos 0) {n = 3 * (v - 1) + 2} (omega arith) in
    let e : point_at table v ≡ record { x = pos 0; y = pos 0; z = pos 0 } = λ i. record { x = x i; y = y i; z = z i } in
    sym e

-- ---- the search for the first vertex beyond the limits

-- the vertex k + 1 is beyond them
abbrev beyond_limits : List ℤ → ℕ → Bool
beyond_limits table k = not (point_in_range (point_at table (k + 1)))

module _ (table : List ℤ) where
  pub bad_point_start : bad_point table 0 ≡ 0
  unfolding bad_point
  bad_point_start = least_start (beyond_limits table)

  pub bad_point_more : (k : ℕ) → bad_point table k ≡ 0 → point_in_range (point_at table (k + 1)) ≡ true → bad_point table (k + 1) ≡ 0
  unfolding bad_point
  bad_point_more k h e = least_more (beyond_limits table) h (ap not e)

  bad_point_found : (k n : ℕ) → bad_point table k ≡ 0 → k < n → point_in_range (point_at table (k + 1)) ≡ false → bad_point table n ≡ suc k
  unfolding bad_point
  bad_point_found k n h l e = least_found (beyond_limits table) h (ap not e) l

-- ---- the tests

module _ (table : List ℤ) (n : ℕ) where
  -- ROOM
  pub too_short : length table / 3 < n → vertices_judged table n ≡ refused (refuse Room 0)
  unfolding vertices_judged
  too_short h = rw (lt-ltb (length table) (vertex_width * n) (omega arith))

  module _ (long : n ≤ length table / 3) where
    enough : ltb (length table) (vertex_width * n) ≡ false
    enough = le-ltb (length table) (vertex_width * n) (omega arith)

    -- RANGE
    pub vertex_refused : (k : ℕ) → bad_point table k ≡ 0 → k < n → point_in_range (point_at table (k + 1)) ≡ false
        → vertices_judged table n ≡ refused (refuse Range (k + 1))
    unfolding vertices_judged
    vertex_refused k h l e = rw (enough, bad_point_found table k n h l e, lt-ltb 0 (suc k) (omega arith), add-one k)

    -- passed
    pub all_within : bad_point table n ≡ 0 → vertices_judged table n ≡ accepted table
    unfolding vertices_judged
    all_within h = rw (enough, h)

  -- each of n points is within the limits where none is found beyond them
  pub each-ranged : bad_point table n ≡ 0 → (k : ℕ) → k < n → point_in_range (point_at table (k + 1)) ≡ true
  unfolding bad_point
  each-ranged none k h = not-false _ (least_all (λ j. not (point_in_range (point_at table (j + 1)))) n none k h)

-- what the code's loop and its returns need
pub ruleset judging = (bad_point_start, bad_point_more, too_short, vertex_refused, all_within)

-- ---- what an accepted table is

-- what comes after a test: where it is accepted, the test did not hold
module _ (table : List ℤ) (n : ℕ) where
  abbrev bad : ℕ
  bad = bad_point table n

  by_tests : (b c : Bool) → ltb (length table) (vertex_width * n) ≡ b → ltb 0 bad ≡ c → {points : List ℤ}
      → refuse_if b (refuse Room 0) (refuse_if c (refuse Range bad) (accepted table)) ≡ accepted points → (points ≡ table) × Ranged table n
  by_tests true c p q e = absurd (let z : ◌≡◌ {A = ℕ} 0 1 = cc in omega arith)
  by_tests false true p q e = absurd (let z : ◌≡◌ {A = ℕ} 0 1 = cc in omega arith)
  by_tests false false p q e =
      let none : bad ≡ 0 = let h = ltb-false 0 bad q in omega arith in
      (cc, record { long = ltb-false (length table) (vertex_width * n) p; each = each-ranged table n none })

  pub accepted-ranged : {points : List ℤ} → vertices_judged table n ≡ accepted points → (points ≡ table) × Ranged table n
  unfolding vertices_judged
  accepted-ranged = by_tests (ltb (length table) (vertex_width * n)) (ltb 0 bad) refl refl

  -- a table of vertices within the limits is accepted
  pub ranged-accepted : Ranged table n → vertices_judged table n ≡ accepted table
  unfolding vertices_judged bad_point
  ranged-accepted h =
      let e : bad_point table n ≡ 0 = least-none (λ j. not (point_in_range (point_at table (j + 1)))) n (λ k l. ap not (h.each k l)) in
      rw (le-ltb (length table) (vertex_width * n) h.long, e)
