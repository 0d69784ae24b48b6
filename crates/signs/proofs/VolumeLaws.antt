-- What the sixfold volume answers of four vertices within the limits.
-- Assumes nothing.
use mathlib.Core.Path.{◌≡◌, ap, ◌∙◌}
use mathlib.Core.Bool.{Bool, true}
use mathlib.Core.List.{List, [], ◌∷◌}
use Prim.Native.Nat.{ℕ}
use lib.Dec.{T}
use lib.IntN.{ℤ}
use Rattle.std.specs.Prelude.{Result, Ok}
use Rattle.faults.specs.declared.Refusal.{Refusal}
use Rattle.volume.specs.declared.Point.{Point}
use Rattle.volume.specs.Volume.{VolumeDone, point_in_range, point_at, sixfold_at}
use Rattle.volume.proofs.Theorems.{done_in_range}
use Rattle.laws.specs.Words.{every}
use Rattle.laws.proofs.TestLaws.{and_left, and_right, T_true}
use Rattle.solids.specs.Solids.{tet}
use Rattle.tets.specs.declared.Tet as code
use Rattle.tets.specs.Tets.{tet_of}
use Rattle.signs.specs.Signs.{volume_in}
use Rattle.signs.specs.SignLoops.{ranged_tet}

-- the four points of a tetrahedron within the limits
record Four (table : List ℤ) (a b c d : ℕ) : Type 0 where
  at_a : point_in_range (point_at table a) ≡ true
  at_b : point_in_range (point_at table b) ≡ true
  at_c : point_in_range (point_at table c) ≡ true
  at_d : point_in_range (point_at table d) ≡ true

four_points : (table : List ℤ) (a b c d : ℕ) → T (ranged_tet table (tet a b c d)) → Four table a b c d
unfolding ranged_tet
four_points table a b c d h =
    let p : ℕ → Bool = λ v. point_in_range (point_at table v) in
    let bcd = and_right (p a) (every p (b ∷ c ∷ d ∷ [])) h in
    let cd = and_right (p b) (every p (c ∷ d ∷ [])) bcd in
    let d-alone = and_right (p c) (every p (d ∷ [])) cd in
    record {
      at_a = T_true (p a) (and_left (p a) (every p (b ∷ c ∷ d ∷ [])) h);
      at_b = T_true (p b) (and_left (p b) (every p (c ∷ d ∷ [])) bcd);
      at_c = T_true (p c) (and_left (p c) (every p (d ∷ [])) cd);
      at_d = T_true (p d) (and_left (p d) true d-alone);
    }

module _ (table : List ℤ) (t : code.Tet) (h : T (ranged_tet table (tet_of t))) where
  pub volume_done : {i j k l : ℕ} → i ≡ t.0.0 → j ≡ t.1.0 → k ≡ t.2.0 → l ≡ t.3.0
      → {a b c d : Point} → a ≡ point_at table i → b ≡ point_at table j → c ≡ point_at table k → d ≡ point_at table l
      → {r : Result ℤ Refusal} → VolumeDone a b c d r → r ≡ Ok (volume_in table (tet_of t))
  unfolding volume_in sixfold_at
  volume_done i j k l p q u v w =
      let f = four_points table t.0.0 t.1.0 t.2.0 t.3.0 h in
      done_in_range (point_at table t.0.0) (point_at table t.1.0) (point_at table t.2.0) (point_at table t.3.0)
      f.at_a f.at_b f.at_c f.at_d (rw (p ∙ ap (point_at table) i, q ∙ ap (point_at table) j, u ∙ ap (point_at table) k, v ∙ ap (point_at table) l) at w)
