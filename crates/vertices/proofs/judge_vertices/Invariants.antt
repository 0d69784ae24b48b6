-- The loop's invariant: none of the vertices that are passed is beyond the limits.
use Rattle.std.proofs.Common.{◌≡◌}
use Rattle.vertices.specs.Vertices.{bad_point}
use Rattle.vertices.proofs.judge_vertices.Given as goal

abbrev pub invariant-loop-k : goal.invariant-loop-k
invariant-loop-k l = bad_point l.vertices l.k ≡ 0
