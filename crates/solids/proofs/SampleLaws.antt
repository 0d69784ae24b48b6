-- The cut of each sample is the one that the page gives.
use mathlib.Core.Path.{◌≡◌, refl}
use mathlib.Core.List.{map}
use Rattle.solids.specs.Cut.{cut}
use Rattle.solids.specs.Samples.{Sample, samples}

pub samples_hold : map (λ (s : Sample). cut s.whole) samples ≡ map (λ (s : Sample). s.parts) samples
unfolding cut
samples_hold = refl
