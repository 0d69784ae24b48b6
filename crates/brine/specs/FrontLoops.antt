-- An answer at the width of the longest one, as the private functions of the front hand it on.
use Rattle.std.specs.Prelude.{ℕ, ◌+◌, List, take, Result, Ok, Err}
use Rattle.faults.specs.Refusals.{Verdict, accepted, refused}
use Rattle.faults.specs.declared.Refusal.{Refusal}
use Rattle.brine.specs.Front.{FrontAnswer}
use Rattle.brine.specs.declared.told.Told.{Told}

-- the page's verdict that an answer stands for: accepted with the entry's own values, or refused
abbrev pub verdict_by : {V : Type 0} → (V → List ℕ) → Result V Refusal → Verdict (List ℕ)
verdict_by values (Ok v) = accepted (values v)
verdict_by values (Err r) = refused r

-- the number, and as many of the numbers as the answer has, tell the verdict
abbrev pub Tells : ℕ → Verdict (List ℕ) → Told → Type 0
Tells k verdict t = FrontAnswer k verdict t.number (take (3 + k) t.numbers)
