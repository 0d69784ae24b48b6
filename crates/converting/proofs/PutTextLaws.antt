-- Laws of a text that is put into lent memory line by line: what a writer wrote, one line after others, and the loop over the records of a table.
-- Assumes nothing.
use mathlib.Core.Path.{◌≡◌, refl, sym, ap, ap₂, ◌∙◌}
use mathlib.Core.List.{List, ◌++◌, append-nil, append_assoc}
use Prim.Native.Nat.{ℕ, ◌+◌, ◌*◌, ◌-◌, ◌≤◌, ◌<◌}
use native.Mathlib.Nat.{le_trans, mul-le-mul_left, mul-suc}
use native.Mathlib.Numerals.{add-one}
use native.Mathlib.Omega.{arith}
use lib.IntN.{ℤ}
use lib.ListN.{length, take, drop, length-append, length-drop}
use lib.Seq.{drop-drop, drop-length, take-append_seam, drop-append_seam}
use borrow.Rule.Slice.PartMut.{mid_of, put_mid, Post-is}
use Rattle.limits.specs.Limits.{vertex_limit, tetrahedron_limit}
use Rattle.laws.specs.Lent.{laid}
use Rattle.laws.proofs.WordLaws.{part_from}
use Rattle.writing.proofs.Theorems.{Written}
use Rattle.std.specs.Prelude.{Result, Ok, IsOk}
use Rattle.faults.specs.declared.Refusal.{Refusal}
use Rattle.writing.specs.Written.{closed, end_line}
use Rattle.converting.specs.Converting.{longest_vertex, longest_tetrahedron, longest_end, longest_output}
use Rattle.converting.specs.ConversionLoops.{Put, vertex_text, tetrahedron_text, text_to, mesh_text}

-- ---- lent memory

module _ {A : Type 0} (a l : List A) where
  pub take-laid : take (length a) (laid a l) ≡ a
  unfolding laid
  take-laid = take-append_seam a (drop (length a) l)

  pub drop-laid : drop (length a) (laid a l) ≡ drop (length a) l
  unfolding laid
  drop-laid = drop-append_seam a (drop (length a) l)

  pub length-laid : length a ≤ length l → length (laid a l) ≡ length l
  unfolding laid
  length-laid h = simp (length-append, length-drop) (omega arith)

  -- a second list laid behind the first
  pub laid-behind : (b : List A) → a ++ laid b (drop (length a) l) ≡ laid (a ++ b) l
  unfolding laid
  laid-behind b = rw (drop-drop (length b) (length a) l, length-append a b) (sym (append_assoc a b (drop (length a + length b) l)))

-- ---- a line

-- what a writer wrote
pub put_written : {answer : Result ℕ Refusal} {old new text : List ℕ} (most : ℕ) {r : ℕ} → Written answer old new text → length text ≤ most → answer ≡ Ok r
    → Put most text old r new
put_written {text = text} most {r} w h e = record { count = let n : Ok r ≡ Ok (length text) = sym e ∙ w.answer in cc; short = h; memory = w.buffer }

-- so it did not refuse
pub wrote-ok : {answer : Result ℕ Refusal} {old new text : List ℕ} → Written answer old new text → IsOk answer
wrote-ok w = rw w.answer

-- more room than the text may need
pub put_within : {m : ℕ} {text old new : List ℕ} (most : ℕ) {r : ℕ} → Put m text old r new → m ≤ most → Put most text old r new
put_within most p h = record { count = p.count; short = omega (arith, p.short); memory = p.memory }

-- the code's part of memory from an index on, put back
put_back : (l part : List ℕ) (r : ℕ) → r ≤ length l → put_mid r (length l - r) l part ≡ take r l ++ part
put_back l part r h = ap (λ (x : List ℕ). take r l ++ (part ++ x)) (Post-is r (length l) l h ∙ drop-length l) ∙ ap (λ (x : List ℕ). take r l ++ x) (append-nil part)

-- a text behind another: the part from the first one's length on was lent
pub put_behind : {m n : ℕ} {a b l l' part : List ℕ} {r s : ℕ} → r ≤ length l' → Put m a l r l' → Put n b (mid_of r (length l' - r) l') s part
    → Put (m + n) (a ++ b) l (r + s) (put_mid r (length l' - r) l' part)
put_behind {m} {n} {a} {b} {l} {l'} {part} {r} {s} h p q =
    let front : take r l' ≡ a = rw (p.count, p.memory) (take-laid a l) in
    let behind : drop r l' ≡ drop (length a) l = rw (p.count, p.memory) (drop-laid a l) in
    let back : part ≡ laid b (drop (length a) l) = q.memory ∙ ap (laid b) (part_from l' r ∙ behind) in
    record {
      count = rw (length-append a b, p.count, q.count);
      short = rw (length-append a b) (omega (arith, p.short, q.short));
      memory = put_back l' part r h ∙ ap₂ {C = List ℕ} (λ x y. x ++ y) front back ∙ laid-behind a l b;
    }

-- memory keeps its length
pub put_size : {m : ℕ} {text old new : List ℕ} {r : ℕ} → Put m text old r new → m ≤ length old → length new ≡ length old
put_size {m} {text} {old} p h = ap length p.memory ∙ length-laid text old (omega (arith, p.short))

-- ---- the loop

-- the lines of the first k of n records are put, each of at most so many bytes
pub record Lines (f : ℕ → List ℕ) (most n : ℕ) (old new : List ℕ) (at k : ℕ) : Type 0 where
  pub up : k ≤ n
  pub room : most * n ≤ length old
  pub put : Put (most * k) (text_to f k) old at new

module _ (f : ℕ → List ℕ) (most n : ℕ) (old : List ℕ) where
  pub lines_none : most * n ≤ length old → Lines f most n old old 0 0
  unfolding text_to laid
  lines_none h = record { up = omega arith; room = h; put = record { count = refl; short = omega arith; memory = refl } }

  module _ {new : List ℕ} {at k : ℕ} (l : Lines f most n old new at k) where
    used : most * k ≤ length old
    used = le_trans (mul-le-mul_left most l.up) l.room

    pub lines_size : length new ≡ length old
    lines_size = put_size l.put used

    -- the lines that are put end within the memory
    pub lines_at : at ≤ length new
    lines_at = omega (arith, lines_size, used, l.put.count, l.put.short)

    pub lines_end : n ≤ k → Put (most * n) (text_to f n) old at new
    lines_end h = let e : k ≡ n = omega (arith, l.up) in rw e at l.put

    module _ (h : k < n) where
      next_used : most * k + most ≤ length old
      next_used = le_trans (rw (← mul-suc most k) (mul-le-mul_left most h)) l.room

      -- there is room for one more
      pub lines_room : most ≤ length (mid_of at (length new - at) new)
      lines_room = rw (part_from new at, length-drop at new) (omega (arith, next_used, lines_size, l.put.count, l.put.short))

      -- the position with one more line stays in memory
      pub lines_more : {part : List ℕ} {s : ℕ} → Put most (f k) (mid_of at (length new - at) new) s part → at + s ≤ length new
      lines_more p = omega (arith, next_used, lines_size, l.put.count, l.put.short, p.count, p.short)

      pub lines_next : {part : List ℕ} {s : ℕ} → Put most (f k) (mid_of at (length new - at) new) s part
          → Lines f most n old (put_mid at (length new - at) new part) (at + s) (k + 1)
      unfolding text_to
      lines_next p = record {
        up = omega arith;
        room = l.room;
        put = rw (add-one k, mul-suc most k) (put_behind lines_at l.put p);
      }

-- ---- vertices, tetrahedra, EN

module _ (vertices : List ℤ) (v : ℕ) (tetrahedra : List ℕ) (n : ℕ) (few-vertices : v ≤ vertex_limit) (few-tetrahedra : n ≤ tetrahedron_limit) (old : List ℕ) (room : longest_output ≤ length old) where
  pub mesh_put : {l part part' : List ℕ} {r s u : ℕ}
      → Put (longest_vertex * v) (text_to (vertex_text vertices) v) old r l
      → Put (longest_tetrahedron * n) (text_to (tetrahedron_text tetrahedra) n) (mid_of r (length l - r) l) s part
      → Put longest_end (closed (end_line v n)) (mid_of (r + s) (length (put_mid r (length l - r) l part) - (r + s)) (put_mid r (length l - r) l part)) u part'
      → Put longest_output (mesh_text vertices v tetrahedra n) old (r + s + u)
      (put_mid (r + s) (length (put_mid r (length l - r) l part) - (r + s)) (put_mid r (length l - r) l part) part')
  unfolding mesh_text
  mesh_put {l} {part} {part'} {r} {s} {u} p q e =
      let a = text_to (vertex_text vertices) v in
      let b = text_to (tetrahedron_text tetrahedra) n in
      let both = put_behind (omega (arith, put_size p (omega arith), p.count, p.short)) p q in
      let all = put_behind (omega (arith, put_size both (omega arith), both.count, both.short)) both e in
      put_within longest_output (rw (append_assoc a b (closed (end_line v n))) at all) (omega arith)
