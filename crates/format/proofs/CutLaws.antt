-- Whether a text is cut at a byte: where the byte stands in it. Assumes nothing.
use Prim.Native.Nat.{ℕ}
use mathlib.Core.Path.{◌≡◌, refl, sym, ◌∙◌}
use mathlib.Core.Bool.{Bool, true, false, cond, ◌||◌, true≢false}
use mathlib.Core.List.{List, [], ◌∷◌}
use lib.Dec.{eqb}
use borrow.Author.Tests.{eqb-false}
use Rattle.laws.specs.Words.{some}
use Rattle.laws.specs.Pieces.{Pieces, rest, piece, push, split}
use Rattle.laws.proofs.PieceLaws.{Free}
use Rattle.format.specs.Number.{cut}

cut-push : (x : ℕ) (p : Pieces) → cut (push x p) ≡ cut p
unfolding push
cut-push x (rest l) = refl
cut-push x (piece l p) = refl

cut_on : (x : ℕ) (p : Pieces) (q : Bool) → cut (cond q (piece [] p) (push x p)) ≡ (q || cut p)
cut_on x p true = refl
cut_on x p false = cut-push x p

-- a text is cut where the byte stands in it
pub cut_some : (b : ℕ) (t : List ℕ) → cut (split b t) ≡ some (λ x. eqb x b) t
unfolding split
cut_some b [] = refl
cut_some b (x ∷ t) = cut_on x (split b t) (eqb x b) ∙ rw (cut_some b t)

uncut_first : (b x : ℕ) (t : List ℕ) → (cut (split b t) ≡ false → Free b t) → (q : Bool) → eqb x b ≡ q
    → cut (cond q (piece [] (split b t)) (push x (split b t))) ≡ false → Free b (x ∷ t)
uncut_first b x t ih true e h = absurd (true≢false h)
uncut_first b x t ih false e h = (eqb-false x b e, ih (sym (cut-push x (split b t)) ∙ h))

-- a text that is not cut at b does not hold it
pub uncut_free : (b : ℕ) (t : List ℕ) → cut (split b t) ≡ false → Free b t
unfolding split
uncut_free b [] e = tt
uncut_free b (x ∷ t) e = uncut_first b x t (uncut_free b t) (eqb x b) refl e
