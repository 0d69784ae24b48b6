-- The page's cut as pieces: each is closed, and every two agree on a shared face, because a face is cut from its lowest number and not from a place.
-- Assumes nothing.
use mathlib.Core.Path.{◌≡◌, refl, sym, ◌∙◌, ap, subst}
use mathlib.Core.Bool.{Bool}
use mathlib.Core.List.Memᴰ
use mathlib.Core.List.{List, [], ◌∷◌, ◌++◌, map, Memᴰ}
use Prim.Native.Nat.{ℕ, ◌-◌, ◌≤◌}
use lib.Dec.{T}
use Rattle.laws.specs.Words.{gather, every, keep}
use Rattle.laws.proofs.ListLaws.{gather_append}
use Rattle.laws.proofs.TestLaws.{and_left, and_right}
use Rattle.laws.proofs.EveryLaws.{every-at}
use Rattle.solids.specs.Solids.{Face, Tri, Tet, Element, element, faces_of}
use Rattle.solids.specs.Cut.{cut_face, cut, cut_mesh}
use Rattle.solids.specs.Fit.{proper, fitting, back_face, is_outer, outer_faces}
use Rattle.solids.specs.Surface.{back, times, owners, Piece, by_rule, Closed, Agree, Agreeing, wholes, all_tets, outer_triangles, SurfaceOf, SurfaceCut}
use Rattle.solids.proofs.ShapeLaws.{from_proper}
use Rattle.solids.proofs.CycleLaws.{FaceApart, test_cycle, times_across}
use Rattle.solids.proofs.ClosedElement.{once_f, surface_f, flat_f}
use Rattle.solids.proofs.FaceFacts.{owned, apart₃_distinct, face_apart, cut-within}
use Rattle.solids.proofs.MeshLaws.{keep_append, surface_of}

-- THE LOCAL THEOREM
pub rule_closed : (e : Element) → T (proper e) → Closed (by_rule e)
rule_closed (element s vs) h =
    let H = from_proper s vs h in
    record {
      once = once_f s vs H;
      surface = surface_f s vs H;
      flat = flat_f s vs H;
      lies = λ t F m l. cut-within t F l;
      own = λ t l. let o = owned s vs H t l in (apart₃_distinct t o.0, o.1);
    }

faces-apart : (e : Element) → T (proper e) → (F : Face ℕ) → Memᴰ F (faces_of e) → FaceApart F
faces-apart (element s vs) h = face_apart s vs (from_proper s vs h)

pub rule_agree : (e x : Element) → T (proper e) → Agree (by_rule e) (by_rule x)
rule_agree e x h F G m_f m_g c t = times_across t F G (faces-apart e h F m_f) (test_cycle (back_face F) G c)

rules_agree : (es : List Element) → T (every proper es) → Agreeing (map by_rule es)
rules_agree [] h = tt
rules_agree (e ∷ es) h = (
  λ q m. agree q (Memᴰ.of_map by_rule es m),
  rules_agree es (and_right (proper e) (every proper es) h),
)
  where
    agree : (q : Piece) → (x : Element) × Memᴰ x es × (by_rule x ≡ q) → Agree (by_rule e) q
    agree q x = subst (Agree (by_rule e)) x.2 (rule_agree e x.0 (and_left (proper e) (every proper es) h))

rules_closed : (es : List Element) → T (every proper es) → (q : Piece) → Memᴰ q (map by_rule es) → Closed q
rules_closed es h q m = go (Memᴰ.of_map by_rule es m)
  where
    go : (x : Element) × Memᴰ x es × (by_rule x ≡ q) → Closed q
    go x = subst Closed x.2 (rule_closed x.0 (every-at proper es h x.0 x.1))

-- ---- a mesh of elements, as pieces

wholes_are : (es : List Element) → wholes (map by_rule es) ≡ es
wholes_are [] = refl
wholes_are (e ∷ es) = ap {B = List Element} (λ l. e ∷ l) (wholes_are es)

tets_are : (es : List Element) → all_tets (map by_rule es) ≡ cut_mesh es
unfolding cut_mesh
tets_are [] = refl
tets_are (e ∷ es) = ap {B = List (Tet ℕ)} (λ l. cut e ++ l) (tets_are es)

outer_are : (P : Face ℕ → Bool) (es : List Element)
    → gather (λ p. gather p.triangles_on (keep P (faces_of p.whole))) (map by_rule es) ≡ gather cut_face (keep P (gather faces_of es))
outer_are P [] = refl
outer_are P (e ∷ es) =
    ap {B = List (Tri ℕ)} (λ l. gather cut_face (keep P (faces_of e)) ++ l) (outer_are P es)
    ∙ sym (gather_append cut_face (keep P (faces_of e)) (keep P (gather faces_of es)))
    ∙ ap (gather cut_face) (sym (keep_append P (faces_of e) (gather faces_of es)))

outer_triangles_are : (es : List Element) → outer_triangles (map by_rule es) ≡ gather cut_face (outer_faces es)
unfolding outer_faces
outer_triangles_are es =
    ap (λ (ws : List Element). gather (λ (p : Piece). gather p.triangles_on (keep (is_outer ws) (faces_of p.whole))) (map by_rule es)) (wholes_are es)
    ∙ outer_are (is_outer es) es

-- THE THEOREM: for every mesh of proper elements that fit
pub surface-cut : (es : List Element) → T (every proper es) → T (fitting es) → SurfaceCut es
surface-cut es h f = record {
  once = λ t. subst (λ (ts : List (Tet ℕ)). owners t ts ≤ 1) (tets_are es) (S.once t);
  surface = λ t.
      ap (times t) (sym (outer_triangles_are es)) ∙ S.surface t
      ∙ ap {B = ℕ} (λ (ts : List (Tet ℕ)). owners t ts - owners (back t) ts) (tets_are es);
}
  where
    S : SurfaceOf (map by_rule es)
    S =
        surface_of (map by_rule es) (subst (λ (l : List Element). T (every proper l)) (sym (wholes_are es)) h)
        (subst (λ (l : List Element). T (fitting l)) (sym (wholes_are es)) f) (rules_closed es h) (rules_agree es h)
