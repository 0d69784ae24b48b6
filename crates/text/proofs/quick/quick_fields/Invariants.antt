-- Invariant: the first k fields are good, and their values stand in the record.
use Rattle.std.proofs.Common.{List, ℕ}
use Rattle.std.specs.Fn.{FnReturnsAt}
use Rattle.format.specs.declared.ReaderState.{ReaderState}
use Rattle.format.specs.declared.Role.{Role}
use Rattle.text.specs.QuickLoops.{Reads}
use Rattle.text.proofs.QuickFields.{SoFar}
use Rattle.text.proofs.quick.quick_fields.Given as goal

abbrev pub invariant-loop-k : goal.invariant-loop-k
invariant-loop-k g l =
    (value : List ℕ → g.row.T.Denot) (state : ReaderState) (role : Role) → Reads (FnReturnsAt g.F.Fn l.read) value state role
    → SoFar value state role l.t l.k l.values l.rest
