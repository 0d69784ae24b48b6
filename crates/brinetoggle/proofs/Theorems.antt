-- What the program promises, as far as it can be said of memory. A reader starts here.
--   first_bytes_enough   what it reads of a file, 65,537 bytes at most, tells its output for the whole file
--   response_right       what it has to write is what the page says for the whole file
--   response_unique      two responses to one input have the same bytes to write, and the same verdict
-- Assumes nothing.
use Prim.Native.Nat.{ℕ, ◌<◌}
use mathlib.Core.Path.{◌≡◌, refl, sym, ap, ◌∙◌}
use mathlib.Core.Bool.{Bool, true, false}
use mathlib.Core.List.{List}
use native.Mathlib.Omega.{arith}
use borrow.Author.Tests.{lt-ltb, ltb-true, ltb-false}
use lib.Dec.{ltb}
use lib.ListN.{length, take}
use lib.Seq.{take_all, length-take-le}
use Rattle.limits.specs.Limits.{file_limit}
use Rattle.faults.specs.declared.Fault.TheVariants as fault
use Rattle.faults.specs.Refusals.{refused, refuse}
use Rattle.format.specs.File.{file_verdict}
use Rattle.converting.specs.Conversion.{conversion, program_output}
use Rattle.brinetoggle.specs.Input.{input_room}
use Rattle.brinetoggle.specs.Responding.{verdict_in, Responded}
use Rattle.brinetoggle.specs.declared.responding.Response.{Response}

-- ---- the first 65,537 bytes are enough

-- a file above the limit is LONG, whatever stands in it
long-output : (file : List ℕ) → file_limit < length file → conversion file ≡ refused (refuse fault.Long 0)
unfolding conversion file_verdict
long-output file l = rw (lt-ltb file_limit (length file) l)

pub first_bytes_enough : (file : List ℕ) → program_output (take input_room file) ≡ program_output file
unfolding program_output
first_bytes_enough file = go (ltb input_room (length file)) refl
  where
    go : (b : Bool) → ltb input_room (length file) ≡ b → program_output (take input_room file) ≡ program_output file
    go true e =
        let l : input_room < length file = ltb-true input_room (length file) e in
        let n : length (take input_room file) ≡ input_room = length-take-le input_room file (omega arith) in
        rw (long-output (take input_room file) (omega arith), long-output file (omega arith))
    go false e = ap program_output (take_all input_room file (ltb-false input_room (length file) e))

-- ---- what is written

-- the program reads the first bytes of the file, and responds to them
pub response_right : (file : List ℕ) (r : Response) (output : List ℕ) → Responded (take input_room file) r output
    → take r.length output ≡ program_output file
response_right file r output h = h.bytes ∙ first_bytes_enough file

module _ (input : List ℕ) (r r' : Response) (output output' : List ℕ) where
  -- what is written, and what is said of it
  pub record Same : Type 0 where
    pub bytes : take r.length output ≡ take r'.length output'
    pub verdict : verdict_in r.refusal (take r.length output) ≡ verdict_in r'.refusal (take r'.length output')

  pub response_unique : Responded input r output → Responded input r' output' → Same
  response_unique h g = record { bytes = h.bytes ∙ sym g.bytes; verdict = h.verdict ∙ sym g.verdict }
