-- One tetrahedron more is placed behind those before it. Assumes nothing.
use Rattle.std.proofs.Common.{◌≡◌, ◌∙◌, sym, ap, ℕ, ◌+◌, ◌*◌, ◌≤◌, ◌<◌, List, [], ◌∷◌, map, length, take, get_or, arith}
use lib.Seq.{take_all}
use Rattle.limits.specs.Limits.{tetrahedron_width}
use Rattle.laws.specs.Lent.{laid, placed}
use Rattle.laws.proofs.LentLaws.{placed-none, placed-laid}
use Rattle.solids.specs.Solids.{Tet}
use Rattle.tets.specs.Tets.{keyed}
use Rattle.mesh.specs.Cutting.{flat}
use Rattle.mesh.proofs.StoreLaws.{placed-next}
use Rattle.mesh.proofs.storing.put_tets.Goals as goal

module _ (l₀ b : List ℕ) where
  start : l₀ ≡ placed l₀ 0 (flat (map keyed (take 0 b)))
  unfolding flat
  start = sym (placed-none l₀ 0)

  step : tetrahedron_width * length b ≤ length l₀ → {l : List ℕ} {k : ℕ} → l ≡ placed l₀ 0 (flat (map keyed (take k b))) → k < length b
      → {u : Tet ℕ} → u ≡ keyed (get_or b k 0)
      → {l' : List ℕ} → l' ≡ placed l (tetrahedron_width * k) (flat (u ∷ [])) → l' ≡ placed l₀ 0 (flat (map keyed (take (k + 1) b)))
  step room {l} {k} h t q e =
      e ∙ ap (λ u. placed l (tetrahedron_width * k) (flat (u ∷ []))) q
      ∙ ap (λ (x : List ℕ). placed x (tetrahedron_width * k) (flat (keyed (get_or b k 0) ∷ []))) h
      ∙ placed-next l₀ b k t (omega arith)

  end : {l : List ℕ} {k : ℕ} → l ≡ placed l₀ 0 (flat (map keyed (take k b))) → length b ≤ k → l ≡ laid (flat (map keyed b)) l₀
  end {l} {k} h q =
      h ∙ ap (λ (x : List ℕ). placed l₀ 0 (flat (map keyed x))) (take_all k b q) ∙ placed-laid l₀ (flat (map keyed b))

pub loop-k-init : goal.loop-k-init
loop-k-init c = start c.args.out.now c.args.keys.now

pub loop-k-preserved : goal.loop-k-preserved
loop-k-preserved c = step c.args.out.now c.args.keys.now c.requires c.loop-k.invariant c.loop-k-test.true c.from.ensures c.put_tet.ensures

pub returns : goal.returns
returns c = end c.args.out.now c.args.keys.now c.loop-k.invariant c.loop-k-test.false
