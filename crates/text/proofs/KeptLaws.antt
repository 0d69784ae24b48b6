-- The lines of a file, judged and kept one after the other: what a line leaves, and what is left after the last.
-- Assumes nothing.
use Prim.Native.Nat.{ℕ, ◌+◌, ◌≤◌, zero-le}
use native.Mathlib.Omega.{arith}
use mathlib.Core.Path.{◌≡◌, refl, sym, ap, ◌∙◌}
use mathlib.Core.Bool.{Bool, true, false}
use mathlib.Core.List.{List, [], ◌∷◌, ◌++◌, append-nil}
use lib.IntN.{ℤ}
use lib.ListN.{length, take, drop, length-append, length-drop}
use lib.Seq.{drop-append-add}
use borrow.Author.Tests.{leb-false, le-ltb}
use Rattle.std.specs.Prelude.{Ok, Result, Err}
use Rattle.limits.specs.Limits.{line_end, file_limit, vertex_limit, element_limit}
use Rattle.laws.specs.Pieces.{piece, split}
use Rattle.faults.specs.Refusals.{accepted, refused, refuse}
use Rattle.faults.specs.declared.Fault.{Fault}
use Rattle.faults.specs.declared.Fault.TheVariants as fault
use Rattle.faults.specs.declared.Refusal.{Refusal}
use Rattle.format.specs.Line.{mark_of, role_of, too_many, after_role, after, line_verdict}
use Rattle.format.specs.File.{start, lines_of, at_end, file_from, file_verdict}
use Rattle.format.specs.Records.{vertex_records, element_records, records_from}
use Rattle.format.specs.declared.Role.{Role}
use Rattle.format.specs.declared.Role.TheVariants.{VertexLine, ElementLine, EndLine, UnknownLine}
use Rattle.format.specs.declared.ReaderState.{ReaderState}
use Rattle.format.specs.declared.Rooms.{Rooms}
use Rattle.format.proofs.FileLaws.{line_taken, file-end}
use Rattle.format.proofs.FileRecordLaws.{vertex_place, element_place, vertex_grows, element_grows, kept-front, records_none, records_line}
use Rattle.text.specs.declared.ReadCounts.{ReadCounts}
use Rattle.text.specs.Reading.{verdict_of}
use Rattle.text.specs.ReadingLoops.{Own, Ready, StoredLine, LineTaken, FileRead}

-- ---- within the limits

-- the counts so far
pub record Limits (state : ReaderState) : Type 0 where
  pub few_vertices : state.vertices ≤ vertex_limit
  pub few_elements : state.elements ≤ element_limit

role_limits : (state : ReaderState) (role : Role) → too_many state role ≡ false → Limits state → Limits (after_role state role)
unfolding too_many after_role
role_limits state VertexLine f k =
    record { few_vertices = omega (arith, leb-false vertex_limit state.vertices f); few_elements = k.few_elements }
role_limits state ElementLine f k =
    record { few_vertices = k.few_vertices; few_elements = omega (arith, leb-false element_limit state.elements f) }
role_limits state EndLine f k = record { few_vertices = k.few_vertices; few_elements = k.few_elements }
role_limits state UnknownLine f k = k

-- an accepted line leaves them there
pub line_limits : (rooms : Rooms) (state : ReaderState) (l : List ℕ) (next : ReaderState) → line_verdict rooms state true l ≡ Ok next → Limits state → Limits next
unfolding after
line_limits rooms state l next e k =
    let t = line_taken rooms state l next true e in
    rw t.same (role_limits state (role_of (mark_of l)) t.few k)

-- ---- a line

module _ (t : List ℕ) (rooms : Rooms) (state : ReaderState) (vertices : List ℤ) (elements : List ℕ) (ready : Ready t state vertices elements) where
  -- its records were stored
  pub line_kept : (l u : List ℕ) (next : ReaderState) (vertices' : List ℤ) (elements' : List ℕ) → t ≡ l ++ (line_end ∷ u)
      → split line_end t ≡ piece l (split line_end u) → line_verdict rooms state true l ≡ Ok next
      → StoredLine l state vertices elements vertices' elements' → length vertices' ≡ length vertices → length elements' ≡ length elements
      → LineTaken t rooms state vertices elements next (length l + 1) vertices' elements'
  line_kept l u next vertices' elements' j k e s v w =
      let q = (line_taken rooms state l next true e).same in
      let i = line_limits rooms state l next e (record { few_vertices = ready.few_vertices; few_elements = ready.few_elements }) in
      let d : drop (length l + 1) t ≡ u = rw j (drop-append-add l (line_end ∷ u) 1) in
      record {
        line = l;
        cut = rw d k;
        some = omega arith;
        inside = rw (j, length-append) (omega arith);
        verdict = e;
        own = record { vertex_length = v ∙ ready.own.vertex_length; element_length = w ∙ ready.own.element_length };
        vertex_table =
            kept-front vertices vertices' _ _ _ s.vertex_table (ap vertex_place q ∙ vertex_grows state l)
            (omega (arith, ready.own.vertex_length, i.few_vertices));
        element_table =
            kept-front elements elements' _ _ _ s.element_table (ap element_place q ∙ element_grows state l)
            (omega (arith, ready.own.element_length, i.few_elements));
      }

-- ---- the lines in order

-- the whole is judged as the rest is from this state, and its records are those that are kept, then those of the rest
pub record Reading (file : List ℕ) (rooms : Rooms) (vertices : List ℤ) (elements : List ℕ) (t : List ℕ) (state : ReaderState) (n : ℕ) : Type 0 where
  pub short : length file ≤ file_limit
  pub lines : n + length t ≤ length file + 1
  pub limits : Limits state
  pub own : Own vertices elements
  pub verdict : file_verdict rooms file ≡ file_from rooms state n (split line_end t)
  pub vertex_table : records_from vertex_records start (lines_of file) ≡ take (vertex_place state) vertices ++ records_from vertex_records state (split line_end t)
  pub element_table : records_from element_records start (lines_of file) ≡ take (element_place state) elements ++ records_from element_records state (split line_end t)

module _ (file : List ℕ) (rooms : Rooms) where
  -- a refused file has no records
  pub refused_read : (r : Result ReadCounts Refusal) (s : Refusal) → verdict_of r ≡ refused s → refused s ≡ file_verdict rooms file → (vertices : List ℤ) (elements : List ℕ)
      → FileRead file rooms r vertices elements
  unfolding verdict_of
  refused_read (Ok c) s e q vertices elements = let z : ◌≡◌ {A = ℕ} 0 1 = cc in absurd (omega arith)
  refused_read (Err s') s e q vertices elements = record { answer = e ∙ q; kept = tt }

  -- before the first line
  pub reading-start : (vertices : List ℤ) (elements : List ℕ) → length file ≤ file_limit → Own vertices elements
      → Reading file rooms vertices elements file start 1
  unfolding file_verdict start
  reading-start vertices elements h o = record {
    short = h;
    lines = omega arith;
    limits = record { few_vertices = zero-le; few_elements = zero-le };
    own = o;
    verdict = rw (le-ltb file_limit (length file) h);
    vertex_table = refl;
    element_table = refl;
  }

  module _ {vertices : List ℤ} {elements : List ℕ} {t : List ℕ} {state : ReaderState} {n : ℕ} (g : Reading file rooms vertices elements t state n) where
    -- a line was taken
    pub reading_more : (next : ReaderState) (m : ℕ) (vertices' : List ℤ) (elements' u : List ℕ)
        → LineTaken t rooms state vertices elements next m vertices' elements' → u ≡ drop m t
        → Reading file rooms vertices' elements' u next (n + 1)
    unfolding file_from
    reading_more next m vertices' elements' u k e =
        let q = (line_taken rooms state k.line next true k.verdict).same in
        rw e (record {
          short = g.short;
          lines = rw (length-drop m t) (omega (arith, g.lines, k.some, k.inside));
          limits = line_limits rooms state k.line next k.verdict g.limits;
          own = k.own;
          verdict = g.verdict ∙ rw (k.cut, k.verdict);
          vertex_table = records_line vertex_records _ (take (vertex_place state) vertices) _ state next t (drop m t) k.line k.cut q k.vertex_table g.vertex_table;
          element_table = records_line element_records _ (take (element_place state) elements) _ state next t (drop m t) k.line k.cut q k.element_table g.element_table;
        })

    -- the line is refused
    pub reading-refused : (r : Result ReadCounts Refusal) (f : Fault) → verdict_of r ≡ refused (refuse f n)
        → ((k : ℕ) → file_from rooms state k (split line_end t) ≡ refused (refuse f k)) → (vertices' : List ℤ) (elements' : List ℕ)
        → FileRead file rooms r vertices' elements'
    reading-refused r f e h vertices' elements' = refused_read r (refuse f n) e (sym (g.verdict ∙ h n)) vertices' elements'

    -- no line is left
    pub reading-end : (r : Result ReadCounts Refusal) → length t ≤ 0 → verdict_of r ≡ at_end state n → FileRead file rooms r vertices elements
    unfolding verdict_of at_end
    reading-end (Ok counts) h e = ended state.ended refl
      where
        ended : (b : Bool) → state.ended ≡ b → FileRead file rooms (Ok counts) vertices elements
        ended true q =
            let a : accepted (counts.vertices ∷ counts.elements ∷ []) ≡ accepted (state.vertices ∷ state.elements ∷ []) = rw q at e in
            let c : counts.vertices ≡ state.vertices = cc in
            let d : counts.elements ≡ state.elements = cc in
            record {
              answer = e ∙ sym (g.verdict ∙ file-end rooms state n t h);
              kept = record {
                vertex_table = g.vertex_table ∙ rw (records_none vertex_records state t h, c) (append-nil _);
                element_table = g.element_table ∙ rw (records_none element_records state t h, d) (append-nil _);
                vertex_long = omega (arith, c, g.own.vertex_length, g.limits.few_vertices);
                element_long = omega (arith, d, g.own.element_length, g.limits.few_elements);
              };
            }
        ended false q =
            let a : accepted (counts.vertices ∷ counts.elements ∷ []) ≡ refused (refuse fault.End n) = rw q at e in
            let z : ◌≡◌ {A = ℕ} 0 1 = cc in
            absurd (omega arith)
    reading-end (Err s) h e = refused_read (Err s) s refl (e ∙ sym (g.verdict ∙ file-end rooms state n t h)) vertices elements
