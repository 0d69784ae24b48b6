-- `brinetoggle::run` writes what the page says for the whole file. Assumes nothing.
use Rattle.std.proofs.Common.{rules}
use Rattle.std.specs.Io.KnownBytes.{Appends}
use Rattle.brinetoggle.proofs.InputLaws.{of_file}
use Rattle.brinetoggle.proofs.run.Goals as goal

pub returns-in-Ok : goal.returns-in-Ok
returns-in-Ok g c =
    let contents = g.O.Write.contents in
    λ ended. of_file _ c.in-Ok.n c.read_input.new.room (λ text. Appends (contents c.args.output.now) (contents c.answer.new.output) text) (search rules) c.in-Ok.ensures.bytes (c.answer.ensures ended)
