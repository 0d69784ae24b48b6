-- A tetrahedron given as an element record: what the record holds, and that it has no fault where its four vertices are different and within a limit.
-- Assumes nothing.
use mathlib.Core.Path.{◌≡◌, refl, sym, ap₂, subst}
use mathlib.Core.Bool.{Bool, ◌&&◌}
use mathlib.Core.List.{List, [], ◌∷◌}
use Prim.Native.Nat.{ℕ, ◌+◌}
use native.Mathlib.Omega.{arith}
use lib.Dec.{T, eqb}
use lib.ListN.{length}
use borrow.Author.Tests.{eq-eqb}
use Rattle.limits.specs.Limits.{element_width}
use Rattle.laws.specs.Words.{every, distinct}
use Rattle.laws.proofs.TestLaws.{true-T, and_left, and_right}
use Rattle.solids.specs.Solids.{Vertex, Tet, tet, Element, element, of_tet}
use Rattle.solids.specs.Listings.{as_element}
use Rattle.records.specs.Record.{kind_of, used_of, spare_of, is_kind, solid_of, element_of, as_record}
use Rattle.records.specs.WholeRecords.{is_number, Faultless}
use Rattle.records.proofs.Theorems.{made_length, made_kind, made_used, made_spare}

abbrev zeros : List ℕ
zeros = 0 ∷ 0 ∷ 0 ∷ 0 ∷ []

four-corners : (u : Tet Vertex) → length (of_tet u) ≡ 4
four-corners (tet a b c d) = refl

module _ (u : Tet Vertex) where
  eight : length (of_tet u) + length zeros ≡ 8
  eight = let e = four-corners u in omega arith

  wide : length (as_record u) ≡ element_width
  wide = made_length 4 (of_tet u) zeros (four-corners u) eight

  kind : kind_of (as_record u) ≡ 4
  kind = made_kind 4 (of_tet u) zeros (four-corners u) eight

  used : used_of (as_record u) ≡ of_tet u
  used = made_used 4 (of_tet u) zeros (four-corners u) eight

  spare : spare_of (as_record u) ≡ zeros
  spare = made_spare 4 (of_tet u) zeros (four-corners u) eight

  pub record_wide : T (eqb (length (as_record u)) element_width)
  record_wide = true-T (eq-eqb (length (as_record u)) element_width wide)

  pub record_element : element_of (as_record u) ≡ as_element u
  unfolding element_of solid_of
  record_element = ap₂ {C = Element} (λ k vs. element (solid_of k) vs) kind used

-- four different vertex numbers up to a limit
abbrev pub is_good : ℕ → Tet Vertex → Bool
is_good limit u = every (is_number limit) (of_tet u) && distinct (of_tet u)

four_is_kind : T (is_kind 4)
unfolding is_kind
four_is_kind = tt

pub record_faultless : (limit : ℕ) (u : Tet Vertex) → T (is_good limit u) → Faultless limit (as_record u)
record_faultless limit u h =
    record {
      wide = wide u;
      kind = subst (λ (k : ℕ). T (is_kind k)) (sym (kind u)) four_is_kind;
      inside = subst (λ (l : List ℕ). T (every (is_number limit) l)) (sym (used u)) (and_left (every (is_number limit) (of_tet u)) (distinct (of_tet u)) h);
      unused = subst (λ (l : List ℕ). T (every (eqb 0) l)) (sym (spare u)) tt;
      apart = subst (λ (l : List ℕ). T (distinct l)) (sym (used u)) (and_right (every (is_number limit) (of_tet u)) (distinct (of_tet u)) h);
    }
