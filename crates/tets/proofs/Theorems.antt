-- What is promised of tetrahedra and their keys, in the words of specs/ alone. A reader starts here.
-- Assumes nothing.
use mathlib.Core.Path.{◌≡◌, sym, ap, ◌∙◌}
use Prim.Native.Nat.{ℕ, ◌<◌}
use lib.Dec.{leb}
use Rattle.solids.specs.Solids.{tet, of_tet}
use Rattle.solids.specs.Cut.{written, up_to}
use Rattle.tets.specs.declared.Tet as code
use Rattle.tets.specs.Tets.{tet_of, key_of, keyed}
use Rattle.tets.proofs.KeyLaws as L

-- ---- a key

-- the key of a key's tetrahedron is the key
pub key_again : (k : ℕ) → key_of (keyed k) ≡ k
key_again = L.key_again

-- the key of a tetrahedron whose later numbers are below the base tells it
pub keyed-again : (a b c d : ℕ) → b < 65536 → c < 65536 → d < 65536 → keyed (key_of (tet a b c d)) ≡ tet a b c d
keyed-again = L.keyed-again

-- keys compare as their tetrahedra do, number by number
pub keys_compare : (k l : ℕ) → up_to (of_tet (keyed k)) (of_tet (keyed l)) ≡ leb k l
keys_compare = L.keys_compare

-- ---- two answers that a contract allows are equal

same-tet : (x y : code.Tet) → tet_of x ≡ tet_of y → x ≡ y
same-tet x y e =
    let a : x.0.0 ≡ y.0.0 = cc in
    let b : x.1.0 ≡ y.1.0 = cc in
    let c : x.2.0 ≡ y.2.0 = cc in
    let d : x.3.0 ≡ y.3.0 = cc in
    λ i. record { 0 = record { 0 = a i }; 1 = record { 0 = b i }; 2 = record { 0 = c i }; 3 = record { 0 = d i } }

-- `written_form`
pub written_unique : (t x y : code.Tet) → tet_of x ≡ written (tet_of t) → tet_of y ≡ written (tet_of t) → x ≡ y
written_unique t x y e f = same-tet x y (e ∙ sym f)

-- `key_of`
pub key_unique : (t : code.Tet) (k l : ℕ) → keyed k ≡ tet_of t → keyed l ≡ tet_of t → k ≡ l
key_unique t k l e f = sym (key_again k) ∙ ap key_of (e ∙ sym f) ∙ key_again l

-- `tet_of`
pub tet_unique : (k : ℕ) (x y : code.Tet) → tet_of x ≡ keyed k → tet_of y ≡ keyed k → x ≡ y
tet_unique k x y e f = same-tet x y (e ∙ sym f)
