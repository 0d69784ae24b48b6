-- The test of each face's number is the test of each face. Assumes nothing.
use Rattle.std.proofs.Common.{◌∙◌, ℕ, refl, rules, arith}
use Rattle.std.proofs.lemmas.Iterator.{YieldsList-from_range}
use Rattle.std.proofs.lemmas.Iterator.Search.{any_from_yields_List}
use Rattle.records.specs.Elements.{seen}
use Rattle.fit.proofs.FaceSearchLaws.{shared, nth_face, face_many, some_faces}
use Rattle.fit.proofs.Pair.share_face.Goals as goal

pub returns : goal.returns
returns c =
    let e = c.args.self.element in
    let test = λ (i : ℕ). shared c.args.vertices.now (seen c.args.self.neighbour) (nth_face (seen e) i) in
    any_from_yields_List test _ _ c.any.result c.any.ensures.ran (YieldsList-from_range 0 _ _ refl (omega (arith, c.face_count.ensures, face_many e.solid e.corners.now))) (λ x b q k. search rules)
    ∙ some_faces (shared c.args.vertices.now (seen c.args.self.neighbour)) (seen e)
