-- What the program writes for an input: `program_output`, at the front of lent memory.
use Rattle.std.specs.Prelude.{ℕ, ◌≤◌, ◌≡◌, List, length, take, Option, Some, None}
use Rattle.faults.specs.Refusals.{Verdict, accepted, refused}
use Rattle.faults.specs.declared.Refusal.{Refusal}
use Rattle.converting.specs.Conversion.{conversion, program_output}
use Rattle.brinetoggle.specs.declared.responding.Response.{Response}

-- what is said of the input: the mesh, or the refusal
abbrev pub verdict_in : Option Refusal → List ℕ → Verdict (List ℕ)
verdict_in None mesh = accepted mesh
verdict_in (Some r) mesh = refused r

-- the bytes to be written are the page's, all of them stand in the output, and the response is the conversion's own
pub record Responded (input : List ℕ) (r : Response) (output : List ℕ) : Type 0 where
  pub bytes : take r.length output ≡ program_output input
  pub within : r.length ≤ length output
  pub verdict : verdict_in r.refusal (take r.length output) ≡ conversion input
