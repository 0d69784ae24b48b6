-- What the record writers promise, in the words of specs/ alone: two answers that a contract allows are equal, a record is written where it
-- has no fault and there is room, nothing else is touched, and how long a record is at most. A reader starts here.
-- Assumes nothing.
use Prim.Native.Nat.{ℕ, suc, ◌+◌, ◌*◌, ◌^◌, ◌≤◌, ◌<◌}
use mathlib.Core.Path.{◌≡◌, refl, sym, ap, ◌∙◌}
use mathlib.Core.Bool.{Bool, true, false, cond, ◌&&◌}
use mathlib.Core.List.{List, [], ◌∷◌}
use Rattle.std.specs.Prelude.{Result, Ok, Err}
use lib.Dec.{eqb}
use lib.IntN.{ℤ, pos, negsuc}
use lib.ListN.{length}
use native.Mathlib.Omega.{arith}
use borrow.Author.Tests.{le-ltb, lt-ltb}
use Rattle.limits.specs.Limits.{minus, vertex_limit, tetrahedron_limit}
use Rattle.laws.specs.Lent.{laid}
use Rattle.faults.specs.Refusals.{Verdict, accepted, refused, refuse}
use Rattle.faults.specs.declared.Fault.TheVariants as fault
use Rattle.std.specs.Prelude.{Ok}
use Rattle.faults.specs.declared.Refusal.{Refusal}
use Rattle.faults.proofs.Theorems.{answer_tells_verdict}
use Rattle.volume.specs.Volume.{in_range}
use Rattle.records.specs.Record.{kind_of, record_finding}
use Rattle.format.specs.declared.Mark.TheVariants.{Te, Py, Pz, Pr, Hx, Unknown}
use Rattle.writing.specs.Written.{digits_of, decimal, sign_of, millimetres_of, coordinate_text, closed, vertex_line, mark_of_kind, element_line, end_line, refusal_line, in_room, write_vertex_verdict, write_element_verdict, write_end_verdict}
use Rattle.writing.specs.Writing.{write_refusal_verdict, write_verdict, WriteDone}
use Rattle.writing.proofs.DecimalLaws as D
use Rattle.writing.proofs.WrittenLaws as W
use Rattle.writing.proofs.WriteLaws.{accepted-done, refused_done, within, faultless, few_of_both}

-- ---- two answers, and two buffers, that the contract allows are equal

-- the answer that a verdict stands for
answer_in : Verdict (List ℕ) → Result ℕ Refusal
answer_in (accepted []) = Ok 0
answer_in (accepted (n ∷ ns)) = Ok n
answer_in (refused r) = Err r

answer_of_verdict : (a : Result ℕ Refusal) → answer_in (write_verdict a) ≡ a
unfolding write_verdict answer_in
answer_of_verdict (Ok n) = refl
answer_of_verdict (Err r) = refl

pub verdict_tells_answer : (a b : Result ℕ Refusal) → write_verdict a ≡ write_verdict b → a ≡ b
verdict_tells_answer a b e = sym (answer_of_verdict a) ∙ ap answer_in e ∙ answer_of_verdict b

-- what the contract fixes: the answer, and every byte of the buffer
pub record Same (a b : Result ℕ Refusal) (new new' : List ℕ) : Type 0 where
  pub answer : a ≡ b
  pub buffer : new ≡ new'

module _ (a b : Result ℕ Refusal) (old new new' : List ℕ) where
  pub write_unique : (v : Verdict (List ℕ)) → WriteDone v old a new → WriteDone v old b new' → Same a b new new'
  write_unique v h k =
      record {
        answer = verdict_tells_answer a b (answer_tells_verdict (0 ∷ []) (write_verdict a) (write_verdict b) (h.answer ∙ sym k.answer));
        buffer = h.buffer ∙ sym k.buffer;
      }

  -- `write_vertex`
  pub write_vertex_unique : (x y z : ℤ) → WriteDone (write_vertex_verdict x y z (length old)) old a new
      → WriteDone (write_vertex_verdict x y z (length old)) old b new' → Same a b new new'
  write_vertex_unique x y z = write_unique (write_vertex_verdict x y z (length old))

  -- `write_element`
  pub write_element_unique : (r : List ℕ) → WriteDone (write_element_verdict r (length old)) old a new
      → WriteDone (write_element_verdict r (length old)) old b new' → Same a b new new'
  write_element_unique r = write_unique (write_element_verdict r (length old))

  -- `write_end`
  pub write_end_unique : (v e : ℕ) → WriteDone (write_end_verdict v e (length old)) old a new
      → WriteDone (write_end_verdict v e (length old)) old b new' → Same a b new new'
  write_end_unique v e = write_unique (write_end_verdict v e (length old))

  -- `write_refusal`
  pub write_refusal_unique : (r : Refusal) → WriteDone (write_refusal_verdict r (length old)) old a new
      → WriteDone (write_refusal_verdict r (length old)) old b new' → Same a b new new'
  write_refusal_unique r = write_unique (write_refusal_verdict r (length old))

-- ---- what is done, and what is refused

module _ (a : Result ℕ Refusal) (old new : List ℕ) where
  -- the text is written: the answer is its length, and the buffer holds it, then what stood behind it
  pub record Written (text : List ℕ) : Type 0 where
    pub answer : a ≡ Ok (length text)
    pub buffer : new ≡ laid text old

  -- nothing is written
  pub record Left (r : Refusal) : Type 0 where
    pub answer : a ≡ Err r
    pub buffer : new ≡ old

  pub accepted-written : (text : List ℕ) → WriteDone (accepted text) old a new → Written text
  accepted-written text h =
      let s = write_unique a (Ok (length text)) old new (laid text old) (accepted text) h (accepted-done text old) in
      record { answer = s.answer; buffer = s.buffer }

  pub refused-left : (r : Refusal) → WriteDone (refused r) old a new → Left r
  refused-left r h =
      let s = write_unique a (Err r) old new old (refused r) h (refused_done old refl refl) in
      record { answer = s.answer; buffer = s.buffer }

  module _ (text : List ℕ) (v : Verdict (List ℕ)) (e : v ≡ in_room (length old) text) (h : WriteDone v old a new) where
    -- where the buffer is as long as the text
    pub room-written : length text ≤ length old → Written text
    unfolding in_room
    room-written l = accepted-written text (rw (e, le-ltb (length old) (length text) l) at h)

    -- where it is shorter, by one byte or more
    pub room-refused : length old < length text → Left (refuse fault.Room 0)
    unfolding in_room
    room-refused l = refused-left (refuse fault.Room 0) (rw (e, lt-ltb (length old) (length text) l) at h)

  -- `write_vertex`, with coordinates within the limits
  pub vertex-written : (x y z : ℤ) → (in_range x && (in_range y && in_range z)) ≡ true
      → WriteDone (write_vertex_verdict x y z (length old)) old a new
      → length (closed (vertex_line x y z)) ≤ length old → Written (closed (vertex_line x y z))
  vertex-written x y z h = room-written (closed (vertex_line x y z)) (write_vertex_verdict x y z (length old)) (within x y z (length old) h)

  -- `write_element`, with a record without a fault
  pub element-written : (r : List ℕ) → record_finding vertex_limit r ≡ Ok tt → WriteDone (write_element_verdict r (length old)) old a new
      → length (closed (element_line r)) ≤ length old → Written (closed (element_line r))
  element-written r clean = room-written (closed (element_line r)) (write_element_verdict r (length old)) (faultless r (length old) clean)

  -- `write_end`, with counts within their limits
  pub end-written : (v e : ℕ) → v ≤ vertex_limit → e ≤ tetrahedron_limit → WriteDone (write_end_verdict v e (length old)) old a new
      → length (closed (end_line v e)) ≤ length old → Written (closed (end_line v e))
  end-written v e hv he = room-written (closed (end_line v e)) (write_end_verdict v e (length old)) (few_of_both v e (length old) hv he)

  -- `write_refusal`
  pub refusal_written : (r : Refusal) → WriteDone (write_refusal_verdict r (length old)) old a new
      → length (refusal_line r) ≤ length old → Written (refusal_line r)
  unfolding write_refusal_verdict
  refusal_written r = room-written (refusal_line r) (write_refusal_verdict r (length old)) refl

-- ---- a coordinate has a minus where it is below zero, and nowhere else: there is no minus on zero

pub no_minus : (n : ℕ) → coordinate_text (pos n) ≡ millimetres_of n
unfolding coordinate_text sign_of
no_minus n = refl

pub minus_below_zero : (n : ℕ) → coordinate_text (negsuc n) ≡ minus ∷ millimetres_of (suc n)
unfolding coordinate_text sign_of
minus_below_zero n = refl

-- 0.000
pub zero-written : coordinate_text (pos 0) ≡ 48 ∷ 46 ∷ 48 ∷ 48 ∷ 48 ∷ []
unfolding coordinate_text sign_of millimetres_of decimal digits_of
zero-written = refl

-- ---- PZ is never written

pub never_pz : (k : ℕ) → mark_of_kind k ≡ Pz → ⊥
unfolding mark_of_kind
never_pz k = go (eqb k 4) (eqb k 5) (eqb k 6) (eqb k 8)
  where
    go : (a b c d : Bool) → cond a Te (cond b Py (cond c Pr (cond d Hx Unknown))) ≡ Pz → ⊥
    go true b c d e = let q : ◌≡◌ {A = ℕ} 0 1 = cc in omega arith
    go false true c d e = let q : ◌≡◌ {A = ℕ} 0 1 = cc in omega arith
    go false false true d e = let q : ◌≡◌ {A = ℕ} 0 1 = cc in omega arith
    go false false false true e = let q : ◌≡◌ {A = ℕ} 0 1 = cc in omega arith
    go false false false false e = let q : ◌≡◌ {A = ℕ} 0 1 = cc in omega arith

-- ---- how many digits a number has, and how long a record is

-- where there are digits enough for a number, more give the same
pub enough_digits : (f g k : ℕ) → k < 10 ^ suc f → k < 10 ^ suc g → digits_of (suc f) k ≡ digits_of (suc g) k
enough_digits = D.enough_digits

pub decimal-digits : (f k : ℕ) → k < 10 ^ suc f → decimal k ≡ digits_of (suc f) k
decimal-digits = D.decimal-digits

pub decimal-short : (f k : ℕ) → k < 10 ^ suc f → length (decimal k) ≤ suc f
decimal-short = D.decimal-short

pub vertex_line_short : (x y z : ℤ) → (in_range x && (in_range y && in_range z)) ≡ true → length (closed (vertex_line x y z)) ≤ 30
vertex_line_short = W.vertex_line_short

-- TE at most 23 bytes, PY 28, PR 33, HX 43
pub element_line_by_kind : (r : List ℕ) → record_finding vertex_limit r ≡ Ok tt → length (closed (element_line r)) ≤ 5 * kind_of r + 3
element_line_by_kind = W.element_line_by_kind

pub element_line_short : (r : List ℕ) → record_finding vertex_limit r ≡ Ok tt → length (closed (element_line r)) ≤ 43
element_line_short = W.element_line_short

pub end_line_short : (v e : ℕ) → v ≤ vertex_limit → e ≤ tetrahedron_limit → length (closed (end_line v e)) ≤ 13
end_line_short = W.end_line_short

pub refusal_line_short : (r : Refusal) → r.place < 2 ^ 64 → r.second < 2 ^ 64 → length (refusal_line r) ≤ 48
refusal_line_short = W.refusal_line_short
