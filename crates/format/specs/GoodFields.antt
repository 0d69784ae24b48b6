-- Fields that pass, in the words that reading and writing share: what is written reads back because its fields are such.
use Rattle.std.specs.Prelude.{ℕ, ◌≤◌, ◌<◌, ◌≡◌, List, [], ◌∷◌, length, Ok}
use Rattle.limits.specs.Limits.{space, minus}
use Rattle.laws.specs.Words.{gather}
use Rattle.format.specs.Line.{field_verdict}
use Rattle.format.specs.declared.Role.{Role}
use Rattle.format.specs.declared.ReaderState.{ReaderState}

-- no byte of l is below b
abbrev pub Above : ℕ → List ℕ → Type 0
Above b [] = Unit {0}
Above b (x ∷ l) = (b ≤ x) × Above b l

-- a field that passes: one or more bytes, none a space, none a byte 10
pub record Good (state : ReaderState) (role : Role) (f : List ℕ) : Type 0 where
  pub some : 0 < length f
  pub plain : Above minus f
  pub passes : field_verdict state role f ≡ Ok tt

-- what holds of each text
abbrev pub Each : (List ℕ → Type 0) → List (List ℕ) → Type 0
Each P [] = Unit {0}
Each P (f ∷ fs) = P f × Each P fs

-- fields, each preceded by exactly one space
abbrev pub spaced : List (List ℕ) → List ℕ
spaced fs = gather (λ (f : List ℕ). space ∷ f) fs
