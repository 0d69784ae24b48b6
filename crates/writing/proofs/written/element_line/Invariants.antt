-- `writing::written::element_line` puts the line of an element. Invariant: behind the mark stand the vertex numbers so far. Assumes nothing.
use Rattle.writing.specs.WriteLoops.{Put}
use Rattle.writing.proofs.WrittenLaws.{numbers_part}
use Rattle.writing.proofs.written.element_line.Given as goal

abbrev pub invariant-loop-vertex : goal.invariant-loop-vertex
invariant-loop-vertex l = Put l.initial.line l.initial.at (numbers_part l.vertex-items l.vertex-index) l.line l.at
