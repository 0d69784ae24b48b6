-- A line that passes each of its tests is accepted. Assumes nothing.
use Prim.Native.Nat.{ℕ}
use mathlib.Core.Path.{◌≡◌}
use mathlib.Core.Bool.{true, false}
use mathlib.Core.List.{List}
use Rattle.std.specs.Prelude.{Ok}
use Rattle.format.specs.Line.{mark_of, role_of, wants, fields_of, fields_verdict, bad_mark, too_many, bad_shape, no_room, bad_counts, after_role, after, line_verdict}
use Rattle.format.specs.declared.Mark.{Mark}
use Rattle.format.specs.declared.Role.{Role}
use Rattle.format.specs.declared.ReaderState.{ReaderState}
use Rattle.format.specs.declared.Rooms.{Rooms}

-- it does not stand after EN, and passes the tests in the page's order
pub record Passing (rooms : Rooms) (state : ReaderState) (l : List ℕ) (mark : Mark) (role : Role) : Type 0 where
  pub marked : mark ≡ mark_of l
  pub said : role ≡ role_of mark
  pub going : state.ended ≡ false
  pub known : bad_mark state role ≡ false
  pub few : too_many state role ≡ false
  pub shaped : bad_shape (wants mark) l ≡ false
  pub passed : fields_verdict state role (fields_of l) ≡ Ok tt
  pub room : no_room rooms state role ≡ false
  pub counts : bad_counts state role (fields_of l) ≡ false

pub passing-accepted : {rooms : Rooms} {state : ReaderState} {l : List ℕ} {mark : Mark} {role : Role} → Passing rooms state l mark role
    → line_verdict rooms state true l ≡ Ok (after_role state role)
unfolding line_verdict after
passing-accepted p = rw (← p.marked, ← p.said, p.known, p.few, p.shaped, p.passed, p.room, p.counts, p.going)
