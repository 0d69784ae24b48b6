-- The first number that differs from u is the vertex that is given. Assumes nothing.
use Rattle.std.proofs.Common.{◌≡◌, ◌∙◌, ap, ℕ, Bor, rules, tests, not, eqb}
use Rattle.std.specs.Prelude.{Option, Some, None, MatchOption, IsSomeAnd}
use Rattle.std.specs.Option.{option_map}
use Rattle.std.proofs.lemmas.Iterator.{YieldsList-from_slice}
use Rattle.std.proofs.lemmas.Iterator.Search.{find_from_yields_List}
use Rattle.solids.specs.declared.Vertex.{Vertex}
use Rattle.fit.proofs.sets.other_than.Goals as goal

-- the number that is found, as a vertex
as_vertex : (r : Option (Bor ℕ)) (s : Option Vertex) {P : Bor ℕ → Vertex → Type 0} → MatchOption r (s ≡ None) (λ x. IsSomeAnd s (P x))
    → ((x : Bor ℕ) (y : Vertex) → P x y → y.0 ≡ x.now) → option_map (λ v. v.0) s ≡ option_map (λ x. x.now) r
as_vertex None s h k = ap (option_map (λ v. v.0)) h
as_vertex (Some x) (Some y) h k = ap Some (k x y h)
as_vertex (Some x) None h k = absurd h

pub returns : goal.returns
returns c =
    as_vertex c.find.result c.map.result c.map.ensures.cases (λ x y p. search rules)
    ∙ find_from_yields_List (λ (w : ℕ). not (eqb c.args.u.0 w)) _ _ c.find.result c.find.ensures.ran (YieldsList-from_slice c.args.vertices.now cc) (λ x b q k. search (rules, tests))
