-- The place and the second number of a refused conversion are small: no line is beyond the file's bytes, no element beyond the limit.
-- Assumes nothing.
use mathlib.Core.Path.{◌≡◌, refl, ap}
use mathlib.Core.Bool.{Bool, true, false, cond}
use mathlib.Core.List.{List, [], ◌∷◌}
use Prim.Native.Nat.{ℕ, zero, suc, pred, ◌+◌, ◌*◌, ◌≤◌, zero-le}
use native.Mathlib.Omega.{arith}
use borrow.Author.Tests.{ltb-false}
use lib.Dec.{eqb, ltb}
use lib.ListN.{length, get_or}
use Rattle.std.specs.Prelude.{Result, Ok, Err}
use Rattle.limits.specs.Limits.{line_end, file_limit, element_limit, tetrahedron_width, vertex_limit, element_width}
use Rattle.laws.specs.Pieces.{Pieces, rest, piece, push, split}
use Rattle.laws.proofs.SearchLaws.{least-most}
use Rattle.faults.specs.declared.Fault.{Fault}
use Rattle.faults.specs.declared.Fault.TheVariants as fault
use Rattle.faults.specs.declared.Refusal.{Refusal}
use Rattle.faults.specs.Refusals.{Verdict, accepted, refused, refuse, refuse_pair, refuse_if, and_then}
use Rattle.solids.specs.Cut.{cut_mesh}
use Rattle.records.specs.Record.{record_finding, record_at, first_elements}
use Rattle.tables.specs.JudgedRecords.{fault_in, bad_record}
use Rattle.judging.specs.Judge.{bad_element, misfit, judged}
use Rattle.judging.proofs.TableVerdictLaws.{judged_by_tests}
use Rattle.mesh.specs.Cutting.{cut_of}
use Rattle.format.specs.Line.{line_verdict}
use Rattle.format.specs.File.{start, lines_of, at_end, onward, file_from, file_verdict}
use Rattle.format.specs.Records.{stored_elements}
use Rattle.format.specs.declared.ReaderState.{ReaderState}
use Rattle.format.specs.declared.Rooms.{Rooms}
use Rattle.format.proofs.AcceptedFileLaws.{file-fits}
use Rattle.converting.specs.Conversion.{rooms, cut_room, conversion}

-- both numbers are at most m
pub record Near (m : ℕ) (r : Refusal) : Type 0 where
  pub place : r.place ≤ m
  pub second : r.second ≤ m

-- a verdict that, where it is a refusal, has such numbers
abbrev Small : {A : Type 0} → ℕ → Verdict A → Type 0
Small m (accepted x) = Unit {0}
Small m (refused r) = Near m r

module _ {A : Type 0} (m : ℕ) where
  small_if : (b : Bool) (r : Refusal) (next : Verdict A) → Near m r → Small m next → Small m (refuse_if b r next)
  small_if true r next p q = p
  small_if false r next p q = q

small_then : {A B : Type 0} (m : ℕ) (x : Verdict A) (f : A → Verdict B) → Small m x → ((y : A) → x ≡ accepted y → Small m (f y)) → Small m (and_then x f)
small_then m (accepted y) f p q = q y refl
small_then m (refused r) f p q = p

-- ---- reading

-- how many lines end in their byte 10
abbrev closed_lines : Pieces → ℕ
closed_lines (rest l) = 0
closed_lines (piece l p) = suc (closed_lines p)

lines_push : (x : ℕ) (p : Pieces) → closed_lines (push x p) ≡ closed_lines p
unfolding push
lines_push x (rest l) = refl
lines_push x (piece l p) = refl

lines_split : (b : ℕ) (l : List ℕ) → closed_lines (split b l) ≤ length l
unfolding split
lines_split b [] = zero-le
lines_split b (x ∷ l) = by (eqb x b) (lines_split b l)
  where
    by : (q : Bool) → closed_lines (split b l) ≤ length l → closed_lines (cond q (piece [] (split b l)) (push x (split b l))) ≤ suc (length l)
    by true h = omega arith
    by false h = rw (lines_push x (split b l)) (omega arith)

at-end : (m : ℕ) (state : ReaderState) (n : ℕ) → n ≤ m → Small m (at_end state n)
unfolding at_end
at-end m state n h = by state.ended
  where
    by : (b : Bool) → Small m (cond b (accepted (state.vertices ∷ state.elements ∷ [])) (refused (refuse fault.End n)))
    by true = tt
    by false = record { place = h; second = zero-le }

at-line : (m n : ℕ) → n ≤ m → (x : Result ReaderState Fault) (next : ReaderState → Verdict (List ℕ)) → ((s : ReaderState) → Small m (next s)) → Small m (onward x n next)
at-line m n h (Ok s) next q = q s
at-line m n h (Err f) next q = record { place = h; second = zero-le }

lines_small : (r : Rooms) (m : ℕ) (p : Pieces) (state : ReaderState) (n : ℕ) → n + closed_lines p + 1 ≤ m → Small m (file_from r state n p)
unfolding file_from
lines_small r m (rest []) state n h = at-end m state n (omega arith)
lines_small r m (rest (x ∷ l)) state n h =
    at-line m n (omega arith) (line_verdict r state false (x ∷ l)) (λ s. at_end s (n + 1)) (λ s. at-end m s (n + 1) (omega arith))
lines_small r m (piece l p) state n h =
    at-line m n (omega arith) (line_verdict r state true l) (λ s. file_from r s (n + 1) p) (λ s. lines_small r m p s (n + 1) (omega arith))

-- one past the last line of a file of 65,536 bytes
abbrev pub last_place : ℕ
last_place = file_limit + 2

file-small : (r : Rooms) (file : List ℕ) → Small last_place (file_verdict r file)
unfolding file_verdict
file-small r file = by (ltb file_limit (length file)) refl
  where
    by : (b : Bool) → ltb file_limit (length file) ≡ b → Small last_place (cond b (refused (refuse fault.Long 0)) (file_from r start 1 (lines_of file)))
    by true e = record { place = zero-le; second = zero-le }
    by false e = lines_small r last_place (lines_of file) start 1 (omega (arith, lines_split line_end file, ltb-false file_limit (length file) e))

-- ---- cutting

module _ (m v n : ℕ) (t : List ℕ) (few : n ≤ m) where
  nowhere : Near m (refuse fault.Many 0)
  nowhere = record { place = zero-le; second = zero-le }

  no_room : Near m (refuse fault.Room 0)
  no_room = record { place = zero-le; second = zero-le }

  at_record : bad_record v t n ≤ n
  unfolding bad_record
  at_record = least-most _ n

  at-element : bad_element t n ≤ n
  unfolding bad_element
  at-element = least-most _ n

  at-misfit : (j : ℕ) → misfit t j ≤ j
  unfolding misfit
  at-misfit j = least-most _ j

  lower : (j : ℕ) → pred j ≤ j
  lower zero = zero-le
  lower (suc j) = omega arith

  judged-small : Small m (judged v n t)
  judged-small =
      let k = bad_record v t n in
      let j = bad_element t n in
      rw (judged_by_tests v n t)
      (small_if m (ltb vertex_limit v) (refuse fault.Many 0) _ nowhere
      (small_if m (ltb element_limit n) (refuse fault.Many 0) _ nowhere
      (small_if m (ltb (length t) (element_width * n)) (refuse fault.Room 0) _ no_room
      (small_if m (ltb 0 k) (refuse (fault_in (record_finding v (record_at t (pred k)))) k) _ (record { place = omega (arith, at_record); second = zero-le })
      (small_if m (ltb 0 j) (refuse_pair j (misfit t (pred j))) (accepted (first_elements t n))
      (record { place = omega (arith, at-element); second = omega (arith, at-misfit (pred j), lower j, at-element) }) tt)))))

  cut_small : (room : ℕ) → Small m (cut_of v n t room)
  unfolding cut_of
  cut_small room =
      small_then m (judged v n t) (λ es. refuse_if (ltb room (tetrahedron_width * length (cut_mesh es))) (refuse fault.Room 0) (accepted (cut_mesh es))) judged-small
      (λ es e. small_if m (ltb room (tetrahedron_width * length (cut_mesh es))) (refuse fault.Room 0) (accepted (cut_mesh es)) no_room tt)

-- ---- the conversion

few-elements : (input cs : List ℕ) → file_verdict rooms input ≡ accepted cs → get_or cs 1 0 ≤ last_place
few-elements input cs e =
    let f = file-fits rooms input cs e in
    let n : get_or cs 1 0 ≡ f.final.elements = ap (λ (l : List ℕ). get_or l 1 0) f.counts in
    omega (arith, f.kept.elements)

conversion-small : (input : List ℕ) → Small last_place (conversion input)
unfolding conversion
conversion-small input =
    small_then last_place (file_verdict rooms input) _ (file-small rooms input)
    (λ cs e.
    small_then last_place (cut_of (get_or cs 0 0) (get_or cs 1 0) (stored_elements rooms input) cut_room) _
    (cut_small last_place (get_or cs 0 0) (get_or cs 1 0) (stored_elements rooms input) (few-elements input cs e) cut_room) (λ ts q. tt))

pub conversion_near : (input : List ℕ) (r : Refusal) → conversion input ≡ refused r → Near last_place r
conversion_near input r e = rw e at (conversion-small input)
