-- A file that reading accepts has no vertex number that is 0 or above its vertex count, so cutting never names VERTEX for it. Assumes nothing.
use Prim.Native.Nat.{ℕ, suc, ◌*◌, ◌≤◌}
use mathlib.Core.Path.{◌≡◌, refl, ap, ◌∙◌}
use mathlib.Core.Bool.{Bool, true, false}
use mathlib.Core.List.{List, []}
use native.Mathlib.Omega.{arith}
use borrow.Author.Tests.{leb-true, leb-false, ne_eqb, le-ltb}
use lib.Dec.{T, leb, ltb, ltb→lt, leb→le}
use lib.ListN.{length, get_or, take, drop, drop_of_length-le}
use Rattle.limits.specs.Limits.{element_width}
use Rattle.laws.specs.Words as words
use Rattle.laws.proofs.TestLaws.{and_left, and_right}
use Rattle.laws.proofs.EveryLaws.{none_follows}
use Rattle.faults.specs.Refusals.{accepted}
use Rattle.records.specs.Record.{kind_of, used_of, stray_vertex, record_at}
use Rattle.records.specs.WholeRecords.{is_number}
use Rattle.format.specs.File.{start, lines_of, file_verdict}
use Rattle.format.specs.Records.{element_records, records_from}
use Rattle.format.specs.StoredRecords.{Stored, EachRecord}
use Rattle.format.specs.declared.Rooms.{Rooms}
use Rattle.format.proofs.AcceptedFileLaws.{file-fits}
use Rattle.format.proofs.StoredRecordLaws.{file_stored}

-- no corner of the record is a vertex that VERTEX refuses
pub record NoStray (v : ℕ) (r : List ℕ) : Type 0 where
  pub none : words.some (stray_vertex v) (used_of r) ≡ false

-- a vertex number between 1 and the count is not refused
number_allowed : (v k : ℕ) → T (is_number v k) → stray_vertex v k ≡ false
number_allowed v k h =
    let low = ltb→lt 0 k (and_left (ltb 0 k) (leb k v) h) in
    rw (ne_eqb k 0 (λ e. omega arith), le-ltb v k (leb→le k v (and_right (ltb 0 k) (leb k v) h)))

stored_none : (v : ℕ) (r : List ℕ) → Stored v r → NoStray v r
stored_none v r s = record { none = none_follows (is_number v) (stray_vertex v) (number_allowed v) (used_of r) s.inside }

-- where there are no numbers, there is none
nothing_stray : (v : ℕ) → NoStray v []
unfolding used_of kind_of
nothing_stray v = record { none = refl }

-- each record of a table, and behind its end nothing
record_sound : (v n : ℕ) (t : List ℕ) → length t ≡ element_width * n → EachRecord element_width (Stored v) t → (k : ℕ) → NoStray v (record_at t k)
unfolding record_at
record_sound v n t e h k = by (leb (suc k) n) refl
  where
    by : (b : Bool) → leb (suc k) n ≡ b → NoStray v (take element_width (drop (element_width * k) t))
    by true q = let j = leb-true (suc k) n q in stored_none v _ (h k (omega arith))
    by false q =
        let j = leb-false (suc k) n q in
        let b : length t ≤ element_width * k = omega arith in
        rw (drop_of_length-le t b) (nothing_stray v)

-- no record of an accepted file has a vertex that VERTEX would refuse
pub file-sound : (rooms : Rooms) (cs file : List ℕ) → file_verdict rooms file ≡ accepted cs
    → (k : ℕ) → NoStray (get_or cs 0 0) (record_at (records_from element_records start (lines_of file)) k)
file-sound rooms cs file e k =
    let f = file-fits rooms file cs e in
    let v : get_or cs 0 0 ≡ f.final.vertices = ap (λ (l : List ℕ). get_or l 0 0) f.counts in
    let stored = file_stored rooms f.final.vertices f.final.elements file (e ∙ ap accepted f.counts) in
    rw v (record_sound f.final.vertices f.final.elements (records_from element_records start (lines_of file)) f.elements stored k)
