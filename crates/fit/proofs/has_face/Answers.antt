-- The test of each face's number is the test of each face. Assumes nothing.
use Rattle.std.proofs.Common.{◌∙◌, ℕ, refl, rules, arith}
use Rattle.std.proofs.lemmas.Iterator.{YieldsList-from_range}
use Rattle.std.proofs.lemmas.Iterator.Search.{any_from_yields_List}
use Rattle.solids.specs.Rotations.{same_face}
use Rattle.records.specs.Elements.{seen}
use Rattle.faces.specs.Faces.{face_of}
use Rattle.fit.proofs.FaceSearchLaws.{nth_face, face_many, some_faces}
use Rattle.fit.proofs.has_face.Goals as goal

pub returns : goal.returns
returns c =
    let e = c.args.element in
    let test = λ (i : ℕ). same_face (face_of c.args.face) (nth_face (seen e) i) in
    any_from_yields_List test _ _ c.any.result c.any.ensures.ran (YieldsList-from_range 0 _ _ refl (omega (arith, c.face_count.ensures, face_many e.solid e.corners.now))) (λ x b q k. search rules)
    ∙ some_faces (same_face (face_of c.args.face)) (seen e)
