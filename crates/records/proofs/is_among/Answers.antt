-- `records::is_among` meets its contract: eight numbers are all the numbers that there are. Assumes nothing.
use Rattle.std.proofs.Common.{◌≡◌, refl, ap, ◌∙◌, ℕ, ◌≤◌, ◌<◌, List, [], ◌∷◌, length, get_or, arith}
use Rattle.laws.specs.Words.{among}
use Rattle.records.proofs.is_among.Goals as goal

all_eight : (l : List ℕ) → 8 ≤ length l → length l < 9
    → get_or l 0 0 ∷ get_or l 1 0 ∷ get_or l 2 0 ∷ get_or l 3 0 ∷ get_or l 4 0 ∷ get_or l 5 0 ∷ get_or l 6 0 ∷ get_or l 7 0 ∷ [] ≡ l
all_eight (a ∷ b ∷ c ∷ d ∷ e ∷ f ∷ g ∷ h ∷ []) m n = refl
all_eight (a ∷ b ∷ c ∷ d ∷ e ∷ f ∷ g ∷ h ∷ i ∷ l) m n = absurd (omega arith)
all_eight [] m n = absurd (omega arith)
all_eight (a ∷ []) m n = absurd (omega arith)
all_eight (a ∷ b ∷ []) m n = absurd (omega arith)
all_eight (a ∷ b ∷ c ∷ []) m n = absurd (omega arith)
all_eight (a ∷ b ∷ c ∷ d ∷ []) m n = absurd (omega arith)
all_eight (a ∷ b ∷ c ∷ d ∷ e ∷ []) m n = absurd (omega arith)
all_eight (a ∷ b ∷ c ∷ d ∷ e ∷ f ∷ []) m n = absurd (omega arith)
all_eight (a ∷ b ∷ c ∷ d ∷ e ∷ f ∷ g ∷ []) m n = absurd (omega arith)

pub returns-in-len8 : goal.returns-in-len8
returns-in-len8 c = c.is_of_eight.ensures ∙ ap (among c.args.v.0) (all_eight c.args.list.now c.in-len8.len_at_least c.in-len8.len_below)
