-- The text of a cut mesh, record by record out of the two tables, is the page's text. Assumes nothing.
use mathlib.Core.Path.{◌≡◌, refl, sym, ap, ap₂, ◌∙◌}
use mathlib.Core.List.{List, [], ◌∷◌, ◌++◌, append-nil, append_assoc}
use Prim.Native.Nat.{ℕ, zero, suc, ◌+◌, ◌*◌, ◌<◌}
use native.Mathlib.Nat.{add-zero, le_of_suc-le-suc, not-suc-le-zero, mul-zero, mul-suc, add_comm}
use native.Mathlib.Omega.{arith}
use lib.IntN.{ℤ, pos}
use lib.ListN.{length, get_or, take, drop}
use lib.Seq.{get_or-take, get_or-drop, drop-drop, take_at, drop_at}
use Rattle.limits.specs.Limits.{vertex_width, tetrahedron_width, element_width}
use Rattle.laws.specs.Words.{gather}
use Rattle.laws.proofs.ListLaws.{gather_append}
use Rattle.solids.specs.Solids.{Vertex, Tet, tet, of_tet}
use Rattle.records.specs.Record.{as_record}
use Rattle.mesh.specs.Cutting.{flat}
use Rattle.format.specs.File.{start}
use Rattle.format.specs.declared.ReaderState.{ReaderState}
use Rattle.writing.specs.Written.{closed, vertex_line, element_line, end_line, vertex_lines, element_lines, after_lines, lines_from, file_lines, written_file}
use Rattle.converting.specs.Conversion.{cut_text}
use Rattle.converting.specs.ConversionLoops.{vertex_text, tetrahedron_record, tetrahedron_text, text_to, mesh_text}

-- ---- texts of records

-- the first record's text in front
text_first : (f : ℕ → List ℕ) (n : ℕ) → text_to f (suc n) ≡ f 0 ++ text_to (λ k. f (suc k)) n
unfolding text_to
text_first f zero = sym (append-nil (f 0))
text_first f (suc n) = ap (λ l. l ++ f (suc n)) (text_first f n) ∙ append_assoc (f 0) (text_to (λ k. f (suc k)) n) (f (suc n))

-- the same text of each record
text_same : (f g : ℕ → List ℕ) (n : ℕ) → ((k : ℕ) → k < n → f k ≡ g k) → text_to f n ≡ text_to g n
unfolding text_to
text_same f g zero h = refl
text_same f g (suc n) h = ap₂ {C = List ℕ} (λ l m. l ++ m) (text_same f g n (λ k q. h k (omega arith))) (h n (omega arith))

module _ {A : Type 0} (lines : ReaderState → List A → List (List ℕ)) (line : List A → List ℕ) (one : (s : ReaderState) (r : List A) → lines s r ≡ line r ∷ []) (w : ℕ) where
  -- the written lines of a table whose records have one line each, whatever the reader's state
  lines_text : (n : ℕ) (s : ReaderState) (t : List A) → gather closed (lines_from lines w s n t) ≡ text_to (λ k. closed (line (take w (drop (w * k) t)))) n
  unfolding lines_from text_to
  lines_text zero s t = refl
  lines_text (suc n) s t =
      gather_append closed (lines s (take w t)) (lines_from lines w (after_lines s (lines s (take w t))) n (drop w t))
      ∙ ap₂ {C = List ℕ} (λ l m. l ++ m)
      (ap (gather closed) (one s (take w t)) ∙ append-nil (closed (line (take w t))) ∙ ap (λ (i : ℕ). closed (line (take w (drop i t)))) (sym (mul-zero w)))
      (lines_text n (after_lines s (lines s (take w t))) (drop w t)
      ∙ text_same _ _ n (λ k h. ap (λ (r : List A). closed (line (take w r))) (drop-drop (w * k) w t ∙ ap (λ (i : ℕ). drop i t) (later k))))
      ∙ sym (text_first (λ k. closed (line (take w (drop (w * k) t)))) n)
    where
      later : (k : ℕ) → w + w * k ≡ w * suc k
      later k = add_comm w (w * k) ∙ sym (mul-suc w k)

-- ---- a vertex

module _ (t : List ℤ) (k : ℕ) where
  coordinate : (i : ℕ) → i < vertex_width → get_or (take vertex_width (drop (vertex_width * k) t)) i (pos 0) ≡ get_or t (vertex_width * k + i) (pos 0)
  coordinate i h = get_or-take vertex_width (drop (vertex_width * k) t) i (pos 0) h ∙ get_or-drop (vertex_width * k) t i (pos 0)

-- the line of a vertex's three numbers
line_of : List ℤ → List ℕ
line_of r = vertex_line (get_or r 0 (pos 0)) (get_or r 1 (pos 0)) (get_or r 2 (pos 0))

vertex-same : (t : List ℤ) (k : ℕ) → closed (line_of (take vertex_width (drop (vertex_width * k) t))) ≡ vertex_text t k
unfolding line_of vertex_text
vertex-same t k =
    let z : vertex_width * k + 0 ≡ vertex_width * k = add-zero (vertex_width * k) in
    rw (coordinate t k 0 (omega arith), coordinate t k 1 (omega arith), coordinate t k 2 (omega arith), z)

-- ---- a tetrahedron

module _ {A B : Type 0} (f : A → List B) (w : ℕ) (wide : (x : A) → length (f x) ≡ w) where
  -- record k of lists of one length, one after the other
  pub gathered_at : (l : List A) (d : A) (k : ℕ) → k < length l → take w (drop (w * k) (gather f l)) ≡ f (get_or l k d)
  gathered_at [] d k h = absurd (not-suc-le-zero h)
  gathered_at (x ∷ l) d zero h = rw (mul-zero w) (take_at (f x) (gather f l) w (wide x))
  gathered_at (x ∷ l) d (suc k) h =
      ap (take w)
      (ap (λ (i : ℕ). drop i (f x ++ gather f l)) (mul-suc w k ∙ add_comm (w * k) w)
      ∙ sym (drop-drop (w * k) w (f x ++ gather f l))
      ∙ ap (drop (w * k)) (drop_at (f x) (gather f l) w (wide x)))
      ∙ gathered_at l d k (le_of_suc-le-suc h)

four-wide : (t : Tet Vertex) → length (of_tet t) ≡ tetrahedron_width
four-wide (tet a b c d) = refl

record_wide : (t : Tet Vertex) → length (as_record t) ≡ element_width
record_wide (tet a b c d) = refl

-- what is read where there is no tetrahedron
abbrev pub no_tet : Tet Vertex
no_tet = tet 0 0 0 0

as_record_lem : (t : Tet Vertex) (x y z u : ℕ) → x ≡ get_or (of_tet t) 0 0 → y ≡ get_or (of_tet t) 1 0 → z ≡ get_or (of_tet t) 2 0 → u ≡ get_or (of_tet t) 3 0
    → 4 ∷ x ∷ y ∷ z ∷ u ∷ 0 ∷ 0 ∷ 0 ∷ 0 ∷ [] ≡ as_record t
as_record_lem (tet a b c d) x y z u p q r s = rw (p, q, r, s)

module _ (ts : List (Tet Vertex)) (k : ℕ) (h : k < length ts) where
  vertex-number : (i : ℕ) → i < tetrahedron_width → get_or (flat ts) (tetrahedron_width * k + i) 0 ≡ get_or (of_tet (get_or ts k no_tet)) i 0
  unfolding flat
  vertex-number i l =
      sym (get_or-take tetrahedron_width (drop (tetrahedron_width * k) (flat ts)) i 0 l ∙ get_or-drop (tetrahedron_width * k) (flat ts) i 0)
      ∙ ap (λ (r : List ℕ). get_or r i 0) (gathered_at of_tet tetrahedron_width four-wide ts no_tet k h)

  -- tetrahedron k of the table of numbers is that of the list
  pub tetrahedron_record_lem : tetrahedron_record (flat ts) k ≡ as_record (get_or ts k no_tet)
  unfolding tetrahedron_record
  tetrahedron_record_lem =
      as_record_lem (get_or ts k no_tet) _ _ _ _
      (ap (λ (i : ℕ). get_or (flat ts) i 0) (sym (add-zero (tetrahedron_width * k))) ∙ vertex-number 0 (omega arith))
      (vertex-number 1 (omega arith)) (vertex-number 2 (omega arith)) (vertex-number 3 (omega arith))

  tetrahedron_same : closed (element_line (take element_width (drop (element_width * k) (gather as_record ts)))) ≡ tetrahedron_text (flat ts) k
  unfolding tetrahedron_text
  tetrahedron_same = ap (λ r. closed (element_line r)) (gathered_at as_record element_width record_wide ts no_tet k h ∙ sym tetrahedron_record_lem)

-- ---- the whole

pub cut_text_lem : (table : List ℤ) (v : ℕ) (ts : List (Tet Vertex)) → cut_text table v ts ≡ mesh_text table v (flat ts) (length ts)
unfolding cut_text written_file file_lines mesh_text vertex_lines element_lines line_of
cut_text_lem table v ts =
    let vs = lines_from vertex_lines vertex_width start v table in
    let s = after_lines start vs in
    let es = lines_from element_lines element_width s (length ts) (gather as_record ts) in
    let en = end_line v (length ts) in
    gather_append closed vs (es ++ (en ∷ []))
    ∙ ap (λ (l : List ℕ). gather closed vs ++ l) (gather_append closed es (en ∷ []) ∙ ap (λ (l : List ℕ). gather closed es ++ l) (append-nil (closed en)))
    ∙ ap₂ {C = List ℕ} (λ l m. l ++ (m ++ closed en))
    (lines_text vertex_lines line_of (λ s r. refl) vertex_width v start table ∙ text_same _ _ v (λ k h. vertex-same table k))
    (lines_text element_lines element_line (λ s r. refl) element_width (length ts) s (gather as_record ts) ∙ text_same _ _ (length ts) (λ k h. tetrahedron_same ts k h))
