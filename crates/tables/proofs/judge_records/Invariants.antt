-- The loop's invariant: none of the records that are passed has a fault.
use Rattle.std.proofs.Common.{◌≡◌}
use Rattle.tables.specs.JudgedRecords.{bad_record}
use Rattle.tables.proofs.judge_records.Given as goal

abbrev pub invariant-loop-k : goal.invariant-loop-k
invariant-loop-k l = bad_record l.vertex_count l.elements l.k-counter ≡ 0
