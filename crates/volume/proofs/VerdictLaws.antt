-- The answer by the tests on the way to it, and an answer from its verdict. Assumes nothing.
use mathlib.Core.Path.{◌≡◌, refl, ap}
use mathlib.Core.Bool.{true, false}
use lib.IntN.{ℤ, pos}
use Rattle.std.specs.Prelude.{Result, Ok, Err}
use Rattle.faults.specs.declared.Fault.TheVariants.{Range}
use Rattle.faults.specs.declared.Refusal.{Refusal}
use Rattle.faults.specs.Refusals.{Verdict, accepted, refused, refuse, answer_of}
use Rattle.volume.specs.declared.Point.{Point}
use Rattle.volume.specs.Volume.{point_in_range, ranged, sixfold, volume_verdict, verdict_of, VolumeDone}

-- the answer that says a verdict
abbrev pub answer_with : Verdict ℤ → Result ℤ Refusal
answer_with (accepted v) = Ok v
answer_with (refused r) = Err r

pub answer-again : (r : Result ℤ Refusal) → answer_with (verdict_of r) ≡ r
unfolding verdict_of
answer-again (Ok v) = refl
answer-again (Err r) = refl

-- the five answers
module _ {a b c d : Point} where
  says : {r : Result ℤ Refusal} → verdict_of r ≡ volume_verdict a b c d → VolumeDone a b c d r
  says e = record { answers = ap (answer_of (pos 0)) e }

  pub first_beyond : {r : Refusal} → (point_in_range a ≡ false) × (r ≡ refuse Range 1) → VolumeDone a b c d (Err r)
  unfolding volume_verdict ranged verdict_of
  first_beyond ha = says (rw (ha.0, ha.1))

  pub second_beyond : {r : Refusal} → point_in_range a ≡ true → (point_in_range b ≡ false) × (r ≡ refuse Range 2) → VolumeDone a b c d (Err r)
  unfolding volume_verdict ranged verdict_of
  second_beyond ha hb = says (rw (ha, hb.0, hb.1))

  pub third_beyond : {r : Refusal} → point_in_range a ≡ true → point_in_range b ≡ true → (point_in_range c ≡ false) × (r ≡ refuse Range 3)
      → VolumeDone a b c d (Err r)
  unfolding volume_verdict ranged verdict_of
  third_beyond ha hb hc = says (rw (ha, hb, hc.0, hc.1))

  pub fourth_beyond : {r : Refusal} → point_in_range a ≡ true → point_in_range b ≡ true → point_in_range c ≡ true
      → (point_in_range d ≡ false) × (r ≡ refuse Range 4) → VolumeDone a b c d (Err r)
  unfolding volume_verdict ranged verdict_of
  fourth_beyond ha hb hc hd = says (rw (ha, hb, hc, hd.0, hd.1))

  pub none_beyond : {z : ℤ} → z ≡ sixfold a b c d
      → point_in_range a ≡ true → point_in_range b ≡ true → point_in_range c ≡ true → point_in_range d ≡ true → VolumeDone a b c d (Ok z)
  unfolding volume_verdict ranged verdict_of
  none_beyond e ha hb hc hd = says (rw (e, ha, hb, hc, hd))
