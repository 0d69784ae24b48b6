-- Laws of a file's verdict, as its lines come one after the other, and what an accepted line tells.
-- Assumes nothing.
use Prim.Native.Nat.{ℕ, ◌+◌, ◌≤◌, ◌<◌}
use native.Mathlib.Omega.{arith}
use mathlib.Core.Path.{◌≡◌, refl, sym, ◌∙◌}
use mathlib.Core.Bool.{Bool, true, false, cond, not}
use mathlib.Core.List.{List, [], ◌∷◌}
use lib.Dec.{ltb}
use lib.ListN.{length}
use borrow.Author.Tests.{ltb-false}
use Rattle.std.specs.Prelude.{Result, Ok, Err}
use Rattle.limits.specs.Limits.{line_end, file_limit}
use Rattle.laws.specs.Pieces.{Pieces, rest, piece, split}
use Rattle.faults.specs.Refusals.{Verdict, accepted, refused, refuse}
use Rattle.faults.specs.declared.Fault.{Fault}
use Rattle.faults.specs.declared.Fault.TheVariants as fault
use Rattle.faults.specs.declared.Refusal.{Refusal}
use Rattle.format.specs.Line.{mark_of, role_of, wants, fields_of, fields_verdict, bad_mark, too_many, bad_shape, no_room, bad_counts, after, given, judged, line_verdict}
use Rattle.format.specs.File.{start, lines_of, at_end, onward, file_from, file_verdict}
use Rattle.format.specs.declared.ReaderState.{ReaderState}
use Rattle.format.specs.declared.Rooms.{Rooms}

-- ---- an accepted line

-- it passed the tests, and the state after it is the next
pub record Taken (rooms : Rooms) (state : ReaderState) (l : List ℕ) (next : ReaderState) : Type 0 where
  pub known : bad_mark state (role_of (mark_of l)) ≡ false
  pub few : too_many state (role_of (mark_of l)) ≡ false
  pub shaped : bad_shape (wants (mark_of l)) l ≡ false
  pub passed : fields_verdict state (role_of (mark_of l)) (fields_of l) ≡ Ok tt
  pub room : no_room rooms state (role_of (mark_of l)) ≡ false
  pub same : next ≡ after state l

no-next : {X : Type 0} (f : Fault) (s : ReaderState) → Err f ≡ Ok s → X
no-next f s h = let z : ◌≡◌ {A = ℕ} 0 1 = cc in absurd (omega arith)

module _ (rooms : Rooms) (state : ReaderState) (l : List ℕ) (next : ReaderState) where
  through : (a b c d e : Bool) (j : Result (Unit {0}) Fault) (g h : Bool)
      → bad_mark state (role_of (mark_of l)) ≡ c
      → too_many state (role_of (mark_of l)) ≡ d
      → bad_shape (wants (mark_of l)) l ≡ e
      → fields_verdict state (role_of (mark_of l)) (fields_of l) ≡ j
      → no_room rooms state (role_of (mark_of l)) ≡ g
      → given a fault.Mark
      (given b fault.Shape
      (given c fault.Mark
      (given d fault.Many
      (given e fault.Shape
      (judged j (given g fault.Room (given h fault.End (Ok (after state l)))))))))
      ≡ Ok next
      → Taken rooms state l next
  through true b c d e j g h k m o p q n = no-next fault.Mark next n
  through false true c d e j g h k m o p q n = no-next fault.Shape next n
  through false false true d e j g h k m o p q n = no-next fault.Mark next n
  through false false false true e j g h k m o p q n = no-next fault.Many next n
  through false false false false true j g h k m o p q n = no-next fault.Shape next n
  through false false false false false (Err f) g h k m o p q n = no-next f next n
  through false false false false false (Ok tt) true h k m o p q n = no-next fault.Room next n
  through false false false false false (Ok tt) false true k m o p q n = no-next fault.End next n
  through false false false false false (Ok tt) false false k m o p q n = record { known = k; few = m; shaped = o; passed = p; room = q; same = cc }

  pub line_taken : (closed : Bool) → line_verdict rooms state closed l ≡ Ok next → Taken rooms state l next
  unfolding line_verdict
  line_taken closed =
      through state.ended (not closed) (bad_mark state (role_of (mark_of l))) (too_many state (role_of (mark_of l)))
      (bad_shape (wants (mark_of l)) l) (fields_verdict state (role_of (mark_of l)) (fields_of l))
      (no_room rooms state (role_of (mark_of l))) (bad_counts state (role_of (mark_of l)) (fields_of l)) refl refl refl refl refl

-- ---- the lines in order

module _ (rooms : Rooms) (state : ReaderState) (n : ℕ) where
  -- no line is left
  pub file-end : (t : List ℕ) → length t ≤ 0 → file_from rooms state n (split line_end t) ≡ at_end state n
  unfolding file_from split
  file-end [] h = refl
  file-end (x ∷ t) h = absurd (omega arith)

  either : (b : Bool) (next : ReaderState → Verdict (List ℕ))
      → onward (cond b (Err fault.Mark) (Err fault.Shape)) n next ≡ refused (refuse (cond b fault.Mark fault.Shape) n)
  either true next = refl
  either false next = refl

  -- a line without its byte 10 is refused
  pub open_refused : (l : List ℕ) (next : ReaderState → Verdict (List ℕ))
      → onward (line_verdict rooms state false l) n next ≡ refused (refuse (cond state.ended fault.Mark fault.Shape) n)
  unfolding line_verdict
  open_refused l next = either state.ended next

  cut_off : (t : List ℕ) → 0 < length t → file_from rooms state n (rest t) ≡ refused (refuse (cond state.ended fault.Mark fault.Shape) n)
  unfolding file_from
  cut_off [] h = absurd (omega arith)
  cut_off (x ∷ t) h = open_refused (x ∷ t) (λ s. at_end s (n + 1))

  -- the last line lacks its byte 10
  pub file_open : (t : List ℕ) → split line_end t ≡ rest t → 0 < length t
      → file_from rooms state n (split line_end t) ≡ refused (refuse (cond state.ended fault.Mark fault.Shape) n)
  file_open t e h = rw e (cut_off t h)

  first_no : (l : List ℕ) (p : Pieces) (f : Fault) → line_verdict rooms state true l ≡ Err f → file_from rooms state n (piece l p) ≡ refused (refuse f n)
  unfolding file_from
  first_no l p f e = rw e

  -- the line is refused
  pub file-no : (t l : List ℕ) (p : Pieces) (f : Fault) → split line_end t ≡ piece l p → line_verdict rooms state true l ≡ Err f
      → file_from rooms state n (split line_end t) ≡ refused (refuse f n)
  file-no t l p f k e = rw k (first_no l p f e)

-- ---- an accepted file, line by line

no_accept : {X : Type 0} (r : Refusal) (cs : List ℕ) → refused r ≡ accepted cs → X
no_accept r cs h = let z : ◌≡◌ {A = ℕ} 0 1 = cc in absurd (omega arith)

-- what holds after the last line, and of a line with what follows it where it holds of what follows, holds of every accepted file
module _
    (rooms : Rooms)
    (cs : List ℕ)
    (P : ReaderState → Pieces → Type 0)
    (last : (state : ReaderState) → cs ≡ state.vertices ∷ state.elements ∷ [] → P state (rest []))
    (line : (state : ReaderState) (l : List ℕ) (p : Pieces) → Taken rooms state l (after state l) → P (after state l) p → P state (piece l p))
  where
    at_last : (state : ReaderState) (n : ℕ) → at_end state n ≡ accepted cs → P state (rest [])
    unfolding at_end
    at_last state n = by state.ended
      where
        by : (b : Bool)
            → cond b (accepted (state.vertices ∷ state.elements ∷ [])) (refused (refuse fault.End n)) ≡ accepted cs
            → P state (rest [])
        by true e = last state (cc)
        by false e = no_accept (refuse fault.End n) cs e

    at-line : (state : ReaderState) (n : ℕ) (l : List ℕ) (p : Pieces)
        → ((s : ReaderState) → file_from rooms s (n + 1) p ≡ accepted cs → P s p)
        → (x : Result ReaderState Fault) → line_verdict rooms state true l ≡ x → onward x n (λ s. file_from rooms s (n + 1) p) ≡ accepted cs
        → P state (piece l p)
    at-line state n l p ih (Err f) q e = no_accept (refuse f n) cs e
    at-line state n l p ih (Ok s) q e =
        let t = line_taken rooms state l s true q in
        line state l p (rw t.same at t) (ih (after state l) (rw t.same at e))

    lines_hold : (p : Pieces) (state : ReaderState) (n : ℕ) → file_from rooms state n p ≡ accepted cs → P state p
    unfolding file_from
    lines_hold (rest []) state n e = at_last state n e
    lines_hold (rest (x ∷ l)) state n e = no_accept _ cs (sym (open_refused rooms state n (x ∷ l) (λ s. at_end s (n + 1))) ∙ e)
    lines_hold (piece l p) state n e = at-line state n l p (λ s q. lines_hold p s (n + 1) q) (line_verdict rooms state true l) refl e

    pub accepted-holds : (file : List ℕ) → file_verdict rooms file ≡ accepted cs → (length file ≤ file_limit) × P start (lines_of file)
    unfolding file_verdict
    accepted-holds file = by (ltb file_limit (length file)) _ refl
      where
        by : (b : Bool) (n : ℕ) → ltb file_limit (length file) ≡ b
            → cond b (refused (refuse fault.Long 0)) (file_from rooms start n (lines_of file)) ≡ accepted cs
            → (length file ≤ file_limit) × P start (lines_of file)
        by true n q e = no_accept (refuse fault.Long 0) cs e
        by false n q e = (ltb-false file_limit (length file) q, lines_hold (lines_of file) start n e)
