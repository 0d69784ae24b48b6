-- Every record without a fault can be relisted by every rotation of its solid, and so can all records of a table, each by its own.
-- Assumes nothing.
use mathlib.Core.Path.{◌≡◌, refl, sym, ap, ap₂, subst, ◌∙◌}
use mathlib.Core.List.{List, [], ◌∷◌, map}
use Prim.Native.Nat.{ℕ, zero, suc, ◌+◌, ◌<◌}
use native.Mathlib.Nat.{add-zero, zero-add, not-suc-le-zero, le_of_suc-le-suc}
use native.Mathlib.Omega.{arith}
use lib.Dec.{T, eqb}
use lib.ListN.{length, get_or, drop, length-append, length-drop, length-map}
use borrow.Author.Tests.{eq-eqb}
use Rattle.limits.specs.Limits.{element_width}
use Rattle.laws.specs.Words.{every, gather}
use Rattle.laws.specs.Lent.{laid}
use Rattle.laws.proofs.TestLaws.{true-T}
use Rattle.laws.proofs.EveryLaws.{every_indexed}
use Rattle.solids.specs.Solids.{Place, Element, element, corners, at}
use Rattle.solids.specs.Rotations.{is_rotation}
use Rattle.solids.specs.Listings.{Relists, by_rotation}
use Rattle.records.specs.Record.{kind_of, used_of, spare_of, solid_of, element_of, record_at}
use Rattle.records.specs.WholeRecords.{Whole, WholeTable}
use Rattle.records.proofs.RecordLaws.{kind-corners, used_length}
use Rattle.records.proofs.Theorems.{record_parts, made_length, made_kind, made_used, made_spare, gathered_length, gathered_at}
use Rattle.promises.specs.Tables.{RecordRelisted, TableRelisted, relisted_record, relisted_records, relisted_table}
use Rattle.promises.proofs.RelistedTables.{rotation_long}

-- ---- a record

module _ (r : List ℕ) (w : Whole r) (ρ : List Place) (h : T (is_rotation (solid_of (kind_of r)) ρ)) where
  abbrev us : List ℕ
  us = map (at (used_of r)) ρ

  corner_count : corners (solid_of (kind_of r)) ≡ kind_of r
  corner_count = kind-corners (kind_of r) w.kind

  many : length us ≡ kind_of r
  many = length-map ρ (at (used_of r)) ∙ rotation_long (solid_of (kind_of r)) ρ h ∙ corner_count

  eight : length us + length (spare_of r) ≡ 8
  eight =
      let a = many in
      let b = used_length r w in
      let c = ap length (record_parts r w.wide) in
      let d = length-append (used_of r) (spare_of r) in
      let e = w.wide in
      omega arith

  relists : Relists (element_of r) (element_of (relisted_record ρ r))
  unfolding element_of
  relists =
      by_rotation ρ h (used_length r w ∙ sym corner_count)
      (ap₂ {C = Element} (λ k vs. element (solid_of k) vs) (made_kind (kind_of r) us (spare_of r) many eight) (made_used (kind_of r) us (spare_of r) many eight))

  pub relisted_record_lem : RecordRelisted r (relisted_record ρ r)
  relisted_record_lem = record {
    long = made_length (kind_of r) us (spare_of r) many eight ∙ sym w.wide;
    kind = made_kind (kind_of r) us (spare_of r) many eight;
    unused = made_spare (kind_of r) us (spare_of r) many eight;
    corners = relists;
  }

-- ---- a table

records_many : (ρs : List (List Place)) (i : ℕ) (t : List ℕ) → length (relisted_records ρs i t) ≡ length ρs
unfolding relisted_records
records_many [] i t = refl
records_many (ρ ∷ ρs) i t = ap suc (records_many ρs (suc i) t)

records_at : (ρs : List (List Place)) (i : ℕ) (t : List ℕ) (k : ℕ) → k < length ρs
    → get_or (relisted_records ρs i t) k [] ≡ relisted_record (get_or ρs k []) (record_at t (i + k))
unfolding relisted_records
records_at [] i t k h = absurd (not-suc-le-zero h)
records_at (ρ ∷ ρs) i t zero h = ap (λ (j : ℕ). relisted_record ρ (record_at t j)) (sym (add-zero i))
records_at (ρ ∷ ρs) i t (suc k) h =
    let e : suc i + k ≡ i + suc k = omega arith in
    records_at ρs (suc i) t k (le_of_suc-le-suc h) ∙ ap (λ (j : ℕ). relisted_record (get_or ρs k []) (record_at t j)) e

module _ (n : ℕ) (t : List ℕ) (w : WholeTable t n) (ρs : List (List Place)) (many : length ρs ≡ n)
    (all : (k : ℕ) → k < n → T (is_rotation (solid_of (kind_of (record_at t k))) (get_or ρs k []))) where
  abbrev rs : List (List ℕ)
  rs = relisted_records ρs 0 t

  rs_many : length rs ≡ n
  rs_many = records_many ρs 0 t ∙ many

  rs_at : (k : ℕ) → k < n → get_or rs k [] ≡ relisted_record (get_or ρs k []) (record_at t k)
  rs_at k h =
      records_at ρs 0 t k (subst (λ (m : ℕ). k < m) (sym many) h)
      ∙ ap (λ (j : ℕ). relisted_record (get_or ρs k []) (record_at t j)) (zero-add k)

  each-relisted : (k : ℕ) → k < n → RecordRelisted (record_at t k) (get_or rs k [])
  each-relisted k h =
      subst (RecordRelisted (record_at t k)) (sym (rs_at k h)) (relisted_record_lem (record_at t k) (w.whole k h) (get_or ρs k []) (all k h))

  all_wide : T (every (λ r. eqb (length r) element_width) rs)
  all_wide =
      every_indexed (λ r. eqb (length r) element_width) [] rs
      (λ k b.
      let h : k < n = subst (λ (m : ℕ). k < m) rs_many b in
      true-T (eq-eqb (length (get_or rs k [])) element_width ((each-relisted k h).long ∙ (w.whole k h).wide)))

  pub relisted-table : TableRelisted n t (relisted_table ρs t)
  unfolding relisted_table laid
  relisted-table =
      record {
        long =
            let a = gathered_length (λ (r : List ℕ). r) rs all_wide in
            let b = rs_many in
            let c = w.long in
            simp (length-append, length-drop) (omega arith);
        each = λ k h.
            subst (RecordRelisted (record_at t k))
            (sym (gathered_at (λ (r : List ℕ). r) [] rs (drop (length (gather (λ (r : List ℕ). r) rs)) t) k all_wide (subst (λ (m : ℕ). k < m) (sym rs_many) h)))
            (each-relisted k h);
      }
