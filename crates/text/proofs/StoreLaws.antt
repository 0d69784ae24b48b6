-- The record of a line stored in its table: the places that it takes, and that they are within the table.
-- Assumes nothing.
use Prim.Native.Nat.{ℕ, ◌+◌, ◌*◌, ◌-◌, ◌≤◌}
use native.Mathlib.Omega.{arith}
use mathlib.Core.Path.{◌≡◌, sym, ◌∙◌}
use mathlib.Core.Bool.{false}
use mathlib.Core.List.{List}
use lib.IntN.{ℤ}
use lib.ListN.{length, take, drop}
use lib.Seq.{sets}
use borrow.Author.Tests.{leb-false}
use borrow.Rule.Slice.PartMut.{put_mid}
use Rattle.std.proofs.lemmas.List.{append_assoc, drop-drop}
use Rattle.std.proofs.lemmas.List.Edits.{sets-eq}
use Rattle.limits.specs.Limits.{vertex_limit, element_limit, vertex_width, element_width}
use Rattle.format.specs.Line.{mark_of, role_of, too_many}
use Rattle.format.specs.declared.Role.TheVariants.{VertexLine, ElementLine}
use Rattle.format.specs.declared.ReaderState.{ReaderState}
use Rattle.text.specs.ReadingLoops.{RoomForLine}

module _ (l : List ℕ) (state : ReaderState) (vertices : List ℤ) (elements : List ℕ) (room : RoomForLine l state vertices elements) where
  -- an allowed vertex has its places
  pub vertex_room : role_of (mark_of l) ≡ VertexLine → vertex_width * state.vertices + vertex_width ≤ length vertices
  unfolding too_many
  vertex_room e =
      let f : too_many state VertexLine ≡ false = rw e at room.allowed in
      omega (arith, room.own.vertex_length, leb-false vertex_limit state.vertices f)

  -- an allowed element has its places
  pub element_room : role_of (mark_of l) ≡ ElementLine → element_width * state.elements + element_width ≤ length elements
  unfolding too_many
  element_room e =
      let f : too_many state ElementLine ≡ false = rw e at room.allowed in
      omega (arith, room.own.element_length, leb-false element_limit state.elements f)

-- values written over a part of a table of their length
pub put_there : {A : Type 0} (values table : List A) (at : ℕ) → at + length values ≤ length table
    → put_mid at (at + length values - at) table values ≡ sets table at values
put_there values table at h =
    let k : at + length values - at ≡ length values = omega arith in
    rw (k, drop-drop (length values) at table) (sym (append_assoc (take at table) values (drop (at + length values) table)) ∙ sym (sets-eq values table at h))
