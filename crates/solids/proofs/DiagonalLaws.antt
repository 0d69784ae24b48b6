-- What a program compares: the diagonal a c of the face a b c d is cut where the lower of a and c is below the lower of b and d.
-- Assumes nothing.
use mathlib.Core.Path.{◌≡◌, refl, ◌∙◌, ap}
use Prim.Native.Nat.{ℕ, min}
use native.Mathlib.Omega.{arith}
use lib.Dec.{ltb}
use borrow.Author.Tests.{eq-eqb, ne_eqb, lt-ltb, le-ltb}
use Rattle.solids.specs.Solids.{four}
use Rattle.solids.specs.Cut.{turned, lowest_first, on_diagonal}
use Rattle.solids.proofs.WrittenFormLaws.{Apart, Least, first, second, third, fourth, least}
use Rattle.solids.proofs.TurnLaws.{turns_0, turns_1, turns_2, turns_3}

pub diagonal_min : (a b c d : ℕ) → Apart a b c d → on_diagonal a (lowest_first (four a b c d)) ≡ ltb (min a c) (min b d)
diagonal_min a b c d h = go (least h)
  where
    go : Least a b c d → on_diagonal a (lowest_first (four a b c d)) ≡ ltb (min a c) (min b d)
    go (first p q r) = ap (λ k. on_diagonal a (turned k (four a b c d))) (turns_0 a b c d p q r) ∙ simp (eq-eqb a a refl, lt-ltb (min a c) (min b d) (omega arith))
    go (second p q r) =
        ap (λ k. on_diagonal a (turned k (four a b c d))) (turns_1 a b c d p q r)
        ∙ simp (ne_eqb a b h.ab, ne_eqb a d h.ad, le-ltb (min a c) (min b d) (omega arith))
    go (third p q r) = ap (λ k. on_diagonal a (turned k (four a b c d))) (turns_2 a b c d p q r) ∙ simp (ne_eqb a c h.ac, eq-eqb a a refl, lt-ltb (min a c) (min b d) (omega arith))
    go (fourth p q r) =
        ap (λ k. on_diagonal a (turned k (four a b c d))) (turns_3 a b c d p q r)
        ∙ simp (ne_eqb a b h.ab, ne_eqb a d h.ad, le-ltb (min a c) (min b d) (omega arith))
