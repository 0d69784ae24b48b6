-- What a read adds to the bytes that were read before, and what the first bytes of a file tell of the whole. Assumes nothing.
use Rattle.std.proofs.Common.{◌≡◌, sym, ap, subst, ◌∙◌, ℕ, zero, suc, ◌+◌, ◌≤◌, arith, List, ◌++◌, length, take, length-append, append_assoc}
use Rattle.std.specs.Prelude.{Option, Some, None, Result, Ok, Err, IfSome}
use Rattle.std.specs.Io.{ReadsAtMost}
use Rattle.std.specs.Io.KnownBytes.{Consumes, ReadConsumes}
use Rattle.std.proofs.Math.Seq.{take-append-add}
use Rattle.std.proofs.lemmas.List.{take-append-le, length-take-le}
use borrow.Rule.Slice.PartMut.{put_mid, post_of}
use Rattle.brinetoggle.specs.Input.{input_room, turn_of}
use Rattle.converting.specs.Conversion.{program_output}
use Rattle.brinetoggle.proofs.Theorems.{first_bytes_enough}

-- ---- one read

-- bytes that were consumed, and then others
consumed : (start before after : Option (List ℕ)) (front bytes : List ℕ) → Consumes start before front → Consumes before after bytes → Consumes start after (front ++ bytes)
consumed None before after front bytes h k = tt
consumed (Some xs) None after front bytes h k = elim h [ ]
consumed (Some xs) (Some ys) None front bytes h k = elim k [ ]
consumed (Some xs) (Some ys) (Some zs) front bytes h k = h ∙ ap (λ (rest : List ℕ). front ++ rest) k ∙ sym (append_assoc front bytes zs)

-- the front of a room whose part from `at` on was written
take_written : (at k n : ℕ) (old part : List ℕ) → at ≤ length old → n ≤ length part → take (at + n) (put_mid at k old part) ≡ take at old ++ take n part
take_written at k n old part a p =
    let l : length (take at old) ≡ at = length-take-le at old a in
    ap (λ i. take (i + n) (take at old ++ (part ++ post_of at k old))) (sym l)
    ∙ take-append-add (take at old) (part ++ post_of at k old) n
    ∙ ap (λ zs. take at old ++ zs) (take-append-le n part (post_of at k old) p)

-- the bytes of the input that stand at the front of a room
pub record Front (start left : Option (List ℕ)) (room : List ℕ) (at : ℕ) : Type 0 where
  pub within : at ≤ length room
  pub bytes : Consumes start left (take at room)

-- a read into the part from there on
pub front-more : {start before after : Option (List ℕ)} {at n : ℕ} {room : List ℕ} (k : ℕ) (part : List ℕ) → Front start before room at → n ≤ length part
    → Consumes before after (take n part) → Front start after (put_mid at k room part) (at + n)
front-more {start} {before} {after} {at} {n} {room} k part f few h =
    let front = length-take-le at room f.within in
    record {
      within = simp length-append (omega arith);
      bytes = rw (take_written at k n room part f.within few) (consumed start before after (take at room) (take n part) f.bytes h);
    }

-- a read that gave bytes
pub front-turn : {E : Type 0} {start before after : Option (List ℕ)} {at n : ℕ} {room : List ℕ} (k : ℕ) (part : List ℕ) (got : Result ℕ E) → Front start before room at
    → ReadsAtMost got part → ReadConsumes before after got part → turn_of got at ≡ Ok (Some n) → Front start after (put_mid at k room part) n
front-turn k part (Ok zero) f p h e = absurd (cc e)
front-turn {start} {after = after} {at = at} {room = room} k part (Ok (suc m)) f p h e =
    subst (λ i. Front start after (put_mid at k room part) i) (cc e) (front-more k part f p.0 h.0)
front-turn k part (Err x) f p h e = absurd (cc e)

-- ---- the whole file

-- what the first bytes tell of a known file
pub of_file : (known : Option (List ℕ)) (n : ℕ) (room : List ℕ) (P : List ℕ → Type 0) → length room ≡ input_room
    → IfSome known (λ file. take n room ≡ take (length room) file) → P (program_output (take n room)) → IfSome known (λ file. P (program_output file))
of_file None n room P size h p = tt
of_file (Some file) n room P size h p =
    let same : program_output (take n room) ≡ program_output file = ap program_output (h ∙ ap (λ i. take i file) size) ∙ first_bytes_enough file in
    subst P same p
