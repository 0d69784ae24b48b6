-- What an injective renaming leaves as it is.
-- Assumes nothing.
use mathlib.Core.Path.{◌≡◌, refl, sym, ◌∙◌, ap, ap₂}
use mathlib.Core.Bool.{Bool, true, false, cond, not}
use mathlib.Core.List.{List, [], ◌∷◌, ◌++◌, map, map-append, map-map}
use Prim.Native.Nat.{ℕ, zero, suc}
use lib.Dec.{eqb, T}
use borrow.Author.Tests.{eqb-true, eqb-false, eq-eqb, ne_eqb}
use Rattle.laws.specs.Words.{distinct, every, keep, gather}
use Rattle.solids.specs.Solids.{Face, three, four, Tri, tri, Tet, tet, of_tet, on_face, on_tri, on_tet, holds}
use Rattle.solids.specs.Cut.{turned, turns, halves, cut_face, lowest_first, on_diagonal, follow, written, ascending, in_order}
use Rattle.laws.proofs.TestLaws.{and_left, and_right, not_among_cons, distinct_cons}
use Rattle.solids.proofs.AscendingLaws.{ascending-through}
use Rattle.solids.proofs.WrittenFormLaws.{FApart, written_even}

-- the triangles of faces that are turned by the given numbers
abbrev pub cuts_at : List (Face ℕ) → List ℕ → List (Tri ℕ)
cuts_at [] ks = []
cuts_at (f ∷ fs) [] = []
cuts_at (f ∷ fs) (k ∷ ks) = halves (turned k f) ++ cuts_at fs ks

-- of each face, turned by the given number: whether its diagonal goes through o
abbrev pub bits_at : ℕ → List (Face ℕ) → List ℕ → List Bool
bits_at o [] ks = []
bits_at o (f ∷ fs) [] = []
bits_at o (f ∷ fs) (k ∷ ks) = on_diagonal o (turned k f) ∷ bits_at o fs ks

abbrev pub apart : List (Tet ℕ) → Bool
apart = every (λ t. distinct (of_tet t))

-- the turns that the vertex numbers ask of a face given in places
abbrev pub asked : (ℕ → ℕ) → Face ℕ → ℕ
asked f F = turns (on_face f F)

module _ (f : ℕ → ℕ) (inj : (p q : ℕ) → f p ≡ f q → p ≡ q) where
  pub eqb_on : (p q : ℕ) → eqb (f p) (f q) ≡ eqb p q
  eqb_on p q = go (eqb p q) refl
    where
      go : (b : Bool) → eqb p q ≡ b → eqb (f p) (f q) ≡ b
      go true e = eq-eqb (f p) (f q) (ap f (eqb-true p q e))
      go false e = ne_eqb (f p) (f q) (λ h. eqb-false p q e (inj p q h))

  pub holds_on : (v : ℕ) (F : Face ℕ) → holds (f v) (on_face f F) ≡ holds v F
  holds_on v (three p q r) = simp eqb_on
  holds_on v (four p q r s) = simp eqb_on

  pub turned_on : (k : ℕ) (F : Face ℕ) → turned k (on_face f F) ≡ on_face f (turned k F)
  turned_on k (three p q r) = refl
  turned_on zero (four p q r s) = refl
  turned_on (suc k) (four p q r s) = turned_on k (four q r s p)

  pub halves_on : (F : Face ℕ) → halves (on_face f F) ≡ map (on_tri f) (halves F)
  halves_on (three p q r) = refl
  halves_on (four p q r s) = refl

  diagonal_on : (v : ℕ) (F : Face ℕ) → on_diagonal (f v) (on_face f F) ≡ on_diagonal v F
  diagonal_on v (three p q r) = refl
  diagonal_on v (four p q r s) = simp eqb_on

  follow_on : (v : ℕ) (t : Tri ℕ) → follow (f v) (on_tri f t) ≡ on_tet f (follow v t)
  follow_on v (tri p q r) = refl

  pub follows_on : (v : ℕ) (ts : List (Tri ℕ)) → map (follow (f v)) (map (on_tri f) ts) ≡ map (on_tet f) (map (follow v) ts)
  follows_on v [] = refl
  follows_on v (t ∷ ts) = ap₂ {C = List (Tet ℕ)} (λ x xs. x ∷ xs) (follow_on v t) (follows_on v ts)

  pub keep_on : (v : ℕ) (fs : List (Face ℕ)) → keep (λ F. not (holds (f v) F)) (map (on_face f) fs) ≡ map (on_face f) (keep (λ F. not (holds v F)) fs)
  keep_on v [] = refl
  keep_on v (F ∷ fs) = rw (holds_on v F, keep_on v fs) (go (not (holds v F)))
    where
      go : (b : Bool) → cond b (on_face f F ∷ map (on_face f) (keep (λ G. not (holds v G)) fs)) (map (on_face f) (keep (λ G. not (holds v G)) fs))
          ≡ map (on_face f) (cond b (F ∷ keep (λ G. not (holds v G)) fs) (keep (λ G. not (holds v G)) fs))
      go true = refl
      go false = refl

  pub cuts_on : (fs : List (Face ℕ)) → gather cut_face (map (on_face f) fs) ≡ map (on_tri f) (cuts_at fs (map (asked f) fs))
  cuts_on [] = refl
  cuts_on (F ∷ fs) =
      ap₂ {C = List (Tri ℕ)} (λ x y. x ++ y) (ap halves (turned_on (asked f F) F) ∙ halves_on (turned (asked f F) F)) (cuts_on fs)
      ∙ sym (map-append (on_tri f) (halves (turned (asked f F) F)) (cuts_at fs (map (asked f) fs)))

  pub bits_on : (o : ℕ) (fs : List (Face ℕ)) → map (λ F. on_diagonal (f o) (lowest_first F)) (map (on_face f) fs) ≡ bits_at o fs (map (asked f) fs)
  bits_on o [] = refl
  bits_on o (F ∷ fs) =
      ap₂ {C = List Bool} (λ b bs. b ∷ bs) (ap (on_diagonal (f o)) (turned_on (asked f F) F) ∙ diagonal_on o (turned (asked f F) F)) (bits_on o fs)

  pub apart_on : (t : Tet ℕ) → T (distinct (of_tet t)) → FApart f t
  apart_on (tet a b c d) h =
      let u = distinct_cons a (b ∷ c ∷ d ∷ []) h in
      let v = distinct_cons b (c ∷ d ∷ []) u.1 in
      let w = distinct_cons c (d ∷ []) v.1 in
      let ab = not_among_cons a b (c ∷ d ∷ []) u.0 in
      let ac = not_among_cons a c (d ∷ []) ab.1 in
      let ad = not_among_cons a d [] ac.1 in
      let bc = not_among_cons b c (d ∷ []) v.0 in
      let bd = not_among_cons b d [] bc.1 in
      let cd = not_among_cons c d [] w.0 in
      record {
        ab = λ e. ab.0 (inj a b e);
        ac = λ e. ac.0 (inj a c e);
        ad = λ e. ad.0 (inj a d e);
        bc = λ e. bc.0 (inj b c e);
        bd = λ e. bd.0 (inj b d e);
        cd = λ e. cd.0 (inj c d e);
      }

  written_all : (ts : List (Tet ℕ)) → T (apart ts) → map (λ t. written (on_tet f t)) (map written ts) ≡ map written (map (on_tet f) ts)
  written_all [] h = refl
  written_all (t ∷ ts) h =
      ap₂ {C = List (Tet ℕ)} (λ x xs. x ∷ xs)
      (written_even f t (apart_on t (and_left (distinct (of_tet t)) (apart ts) h)))
      (written_all ts (and_right (distinct (of_tet t)) (apart ts) h))

  -- THE TRANSPORT: tetrahedra may be put in order by their places before they are renamed and put in order by their numbers
  pub in_order-through : (ts : List (Tet ℕ)) → T (apart ts) → in_order (map (on_tet f) (in_order ts)) ≡ in_order (map (on_tet f) ts)
  in_order-through ts h =
      ap ascending (map-map written (on_tet f) (in_order ts))
      ∙ ascending-through (λ t. written (on_tet f t)) (map written ts)
      ∙ ap ascending (written_all ts h)

  -- so two lists that are one in places are one in numbers
  pub same_places : (ts us : List (Tet ℕ)) → T (apart ts) → T (apart us) → in_order ts ≡ in_order us → in_order (map (on_tet f) ts) ≡ in_order (map (on_tet f) us)
  same_places ts us h k e = sym (in_order-through ts h) ∙ ap (λ l. in_order (map (on_tet f) l)) e ∙ in_order-through us k
