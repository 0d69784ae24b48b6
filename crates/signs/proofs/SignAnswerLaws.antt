-- The answer of the sign report, by the answers on the way to it.
-- Assumes nothing.
use mathlib.Core.Path.{◌≡◌, ap}
use mathlib.Core.List.{List, [], ◌∷◌}
use Prim.Native.Nat.{ℕ}
use lib.IntN.{ℤ}
use Rattle.std.specs.Prelude.{Result, Ok, Err}
use Rattle.faults.specs.declared.Refusal.{Refusal}
use Rattle.std.specs.Prelude.{Err}
use Rattle.faults.specs.Refusals.{accepted, refused, ruled, answer_of}
use Rattle.solids.specs.Solids.{Element}
use Rattle.judging.specs.Judge.{judged}
use Rattle.vertices.specs.Vertices.{vertices_judged, Ranged}
use Rattle.vertices.proofs.Theorems.{ruled-refused, ranged-accepted}
use Rattle.signs.specs.declared.SignCounts.{SignCounts}
use Rattle.signs.specs.Signs.{sign_counts, signs_of, sign_verdict, SignDone}
use Rattle.signs.specs.SignLoops.{of_counts}

module _ {v n : ℕ} {t : List ℕ} {table : List ℤ} where
  says : {r : Result SignCounts Refusal} → sign_verdict r ≡ signs_of v n t table → SignDone v n t table r
  says e = record { answer = ap (answer_of (0 ∷ 0 ∷ 0 ∷ 0 ∷ [])) e }

  -- the table is refused
  pub table-refused : {f : Refusal} → judged v n t ≡ refused f → SignDone v n t table (Err f)
  unfolding signs_of
  table-refused h = says (rw h)

  module _ {es : List Element} (h : judged v n t ≡ accepted es) where
    -- ROOM or RANGE of the vertex table
    pub vertices-refused : {f : Refusal} → ruled (vertices_judged table v) ≡ Err f → SignDone v n t table (Err f)
    unfolding signs_of
    vertices-refused q = says (rw (h, ruled-refused table v q))

    -- the four counts
    pub all_counted : {c : SignCounts} → Ranged table v → of_counts c ≡ sign_counts table es → SignDone v n t table (Ok c)
    unfolding signs_of
    all_counted q k = says (rw (h, ranged-accepted table v q) (ap accepted k))
