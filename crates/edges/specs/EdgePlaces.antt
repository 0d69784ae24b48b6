-- The edges of a solid by their places: each once, and in rows as the code has them; proofs/EdgeLaws.antt says that both are the page's edges.
use Rattle.std.specs.Prelude.{Bool, ◌&&◌, ◌||◌, List, [], ◌∷◌, map, eqb, ltb, get_or}
use Rattle.laws.specs.Words.{keep, some, every, gather}
use Rattle.solids.specs.declared.Solid.{Solid}
use Rattle.solids.specs.Solids.{Vertex, Place, Edge, edge, faces, at, edges_of, ends}
use Rattle.solids.specs.Fit.{same_set}

-- from a lower place to a higher
abbrev pub rises : Edge Place → Bool
rises (edge p q) = ltb p q

-- a solid's edges, each once: two faces have it as a side, in opposite directions
unfoldable pub edge_places : Solid → List (List Place)
edge_places s = map ends (keep rises (gather edges_of (faces s)))

-- the vertices u and v stand at the two places, in one order or the other
unfoldable pub joins : Vertex → Vertex → List Vertex → List Place → Bool
joins u v vs E =
    let a = at vs (get_or E 0 0) in
    let b = at vs (get_or E 1 0) in
    (eqb a u && eqb b v) || (eqb a v && eqb b u)

-- ---- the edges from both of their ends, in rows: a place, then three places to which an edge goes from it

-- the same two places, in one order or the other
abbrev pub alike : Edge Place → Edge Place → Bool
alike E F = same_set (ends E) (ends F)

-- the same place first, and the same place last
abbrev pub is_edge : Edge Place → Edge Place → Bool
is_edge (edge a b) (edge p q) = eqb a p && eqb b q

-- the edge from its other end
abbrev pub turned : Edge Place → Edge Place
turned (edge p q) = edge q p

-- the edges that a row names
abbrev pub pairs : List Place → List (Edge Place)
pairs row =
    edge (get_or row 0 0) (get_or row 1 0) ∷ edge (get_or row 0 0) (get_or row 2 0) ∷ edge (get_or row 0 0) (get_or row 3 0) ∷ []

-- the rows name no other pair than an edge of the solid, and each edge from both of its ends
unfoldable pub names_edges : Solid → List (List Place) → Bool
names_edges s rows =
    let edges = keep rises (gather edges_of (faces s)) in
    let named = gather pairs rows in
    every (λ E. some (alike E) edges) named && every (λ E. some (is_edge E) named && some (is_edge (turned E)) named) edges

-- the vertex u stands at the first place of a row, and v at one of the three others
unfoldable pub reaches : Vertex → Vertex → List Vertex → List Place → Bool
reaches u v vs row =
    eqb (at vs (get_or row 0 0)) u
    && (eqb (at vs (get_or row 1 0)) v || (eqb (at vs (get_or row 2 0)) v || eqb (at vs (get_or row 3 0)) v))
