-- Tables and numbers: a vertex, its limits, and the sixfold volume of four points.
--   point     a vertex: three signed numbers, thousandths of a millimetre
--   row       a point less another: a row of the determinant
use Rattle.std.specs.Prelude.{◌≡◌, Bool, Result, Ok, Err, cond, ◌&&◌, List, ℕ, ◌+◌, ◌*◌, ◌-◌, ℤ, pos, neg_ℤ, ◌+ℤ◌, ◌-ℤ◌, ◌*ℤ◌, get_or}
use Rattle.std.specs.Int.Signed.{le_z}
use Rattle.limits.specs.Limits.{coordinate_limit}
use Rattle.faults.specs.declared.Fault.TheVariants.{Range}
use Rattle.faults.specs.declared.Refusal.{Refusal}
use Rattle.faults.specs.Refusals.{Verdict, accepted, refused, refuse, answer_of}
use Rattle.volume.specs.declared.Point.{Point}

-- a coordinate from -500,000 to 500,000
unfoldable pub in_range : ℤ → Bool
in_range z = le_z (neg_ℤ (pos coordinate_limit)) z && le_z z (pos coordinate_limit)

-- each coordinate of the point is within the limits
unfoldable pub point_in_range : Point → Bool
point_in_range p = in_range p.x && (in_range p.y && in_range p.z)

-- a row of the determinant
pub record Row : Type 0 where
  pub x : ℤ
  pub y : ℤ
  pub z : ℤ

-- q - p
unfoldable pub minus : Point → Point → Row
minus q p = record { x = q.x -ℤ p.x; y = q.y -ℤ p.y; z = q.z -ℤ p.z }

-- the determinant with rows a b and c d
unfoldable pub minor : ℤ → ℤ → ℤ → ℤ → ℤ
minor a b c d = a *ℤ d -ℤ b *ℤ c

-- the determinant with rows u, v, w, by its first row
unfoldable pub determinant : Row → Row → Row → ℤ
determinant u v w =
    u.x *ℤ minor v.y v.z w.y w.z
    -ℤ u.y *ℤ minor v.x v.z w.x w.z
    +ℤ u.z *ℤ minor v.x v.y w.x w.y

-- the sixfold volume of a b c d is the determinant with rows b-a, c-a, d-a
unfoldable pub sixfold : Point → Point → Point → Point → ℤ
sixfold a b c d = determinant (minus b a) (minus c a) (minus d a)

-- RANGE with the point's index where a coordinate of it is beyond the limits, else what follows
unfoldable pub ranged : ℕ → Point → Verdict ℤ → Verdict ℤ
ranged n p next = cond (point_in_range p) next (refused (refuse Range n))

-- RANGE at the lowest point beyond the limits, else the sixfold volume
unfoldable pub volume_verdict : Point → Point → Point → Point → Verdict ℤ
volume_verdict a b c d = ranged 1 a (ranged 2 b (ranged 3 c (ranged 4 d (accepted (sixfold a b c d)))))

-- what an answer says
unfoldable pub verdict_of : Result ℤ Refusal → Verdict ℤ
verdict_of (Ok v) = accepted v
verdict_of (Err r) = refused r

-- the answer, in the page's numbers, is the verdict of the four points; a refused answer has 0 for the volume
pub record VolumeDone (a b c d : Point) (r : Result ℤ Refusal) : Type 0 where
  pub answers : answer_of (pos 0) (verdict_of r) ≡ answer_of (pos 0) (volume_verdict a b c d)

-- the vertex v, counted from 1, of a vertex table of three numbers a vertex
unfoldable pub point_at : List ℤ → ℕ → Point
point_at t v =
    record {
      x = get_or t (3 * (v - 1)) (pos 0);
      y = get_or t (3 * (v - 1) + 1) (pos 0);
      z = get_or t (3 * (v - 1) + 2) (pos 0);
    }

-- the sixfold volume of the vertices a b c d of a vertex table
unfoldable pub sixfold_at : List ℤ → (a b c d : ℕ) → ℤ
sixfold_at t a b c d = sixfold (point_at t a) (point_at t b) (point_at t c) (point_at t d)
