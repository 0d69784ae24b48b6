-- The twelve even reorderings of a tetrahedron; the written form is one of them.
-- Assumes nothing.
use mathlib.Core.Bool.{Bool, true, ◌&&◌}
use mathlib.Core.List.{List, [], ◌∷◌, ◌++◌}
use Prim.Native.Nat.{ℕ}
use lib.Dec.{eqb, T}
use Rattle.laws.specs.Words.{every, gather, lowest}
use Rattle.solids.specs.Solids.{Tet, tet}
use Rattle.solids.specs.Cut.{first_lowest, second_lowest, written}
use Rattle.laws.proofs.TestLaws.{and_left, and_right}
use Rattle.laws.proofs.EveryLaws.{every_front, every_rest}
use Rattle.solids.proofs.WrittenFormLaws.{either}

module _ {A : Type 0} where
  -- the last three turned
  abbrev pub turns_of_three : Tet A → List (Tet A)
  turns_of_three (tet a b c d) = tet a b c d ∷ tet a c d b ∷ tet a d b c ∷ []

  -- two pairs exchanged
  abbrev pub exchanges : Tet A → List (Tet A)
  exchanges (tet a b c d) = tet a b c d ∷ tet b a d c ∷ tet c d a b ∷ tet d c b a ∷ []

  abbrev pub evens : Tet A → List (Tet A)
  evens t = gather turns_of_three (exchanges t)

module _ (P : Tet ℕ → Bool) where
  -- a test that passes at each of three turns passes where the second lowest has come second
  second : (t : Tet ℕ) → T (every P (turns_of_three t)) → T (P (second_lowest t))
  second (tet a b c d) h =
      let m = lowest (b ∷ c ∷ d ∷ []) in
      let x = P (tet a b c d) in
      let y = P (tet a c d b) in
      let z = P (tet a d b c) in
      let hy = and_right x (y && (z && true)) h in
      either (λ t. T (P t)) (eqb b m) (and_left x (y && (z && true)) h)
      (either (λ t. T (P t)) (eqb c m) (and_left y (z && true) hy) (and_left z true (and_right y (z && true) hy)))

  -- a test that passes at each even reordering passes at the written form
  pub written_even_too : (t : Tet ℕ) → T (every P (evens t)) → T (P (written t))
  written_even_too (tet a b c d) h =
      let m = lowest (a ∷ b ∷ c ∷ d ∷ []) in
      let w = turns_of_three (tet a b c d) in
      let x = turns_of_three (tet b a d c) in
      let y = turns_of_three (tet c d a b) in
      let z = turns_of_three (tet d c b a) in
      let hx = every_rest P w (x ++ (y ++ (z ++ []))) h in
      let hy = every_rest P x (y ++ (z ++ [])) hx in
      let hz = every_rest P y (z ++ []) hy in
      second (first_lowest (tet a b c d))
      (either (λ t. T (every P (turns_of_three t))) (eqb a m) (every_front P w (x ++ (y ++ (z ++ []))) h)
      (either (λ t. T (every P (turns_of_three t))) (eqb b m) (every_front P x (y ++ (z ++ [])) hx)
      (either (λ t. T (every P (turns_of_three t))) (eqb c m) (every_front P y (z ++ []) hy) (every_front P z [] hz))))
