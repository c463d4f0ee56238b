-- Lines that are cut at their delimiter lines are all there, and the parts are among them.
use Rattle.std.proofs.Common.{◌≡◌, ℕ, ◌+◌, ◌-◌, ◌≤◌, Bool, true, false, List, [], ◌∷◌, ◌++◌, length, refl, sym, ap, ◌∙◌, arith, append_assoc, length-append, inl, inr}
use Rattle.std.specs.Prelude.{All, IsTrue, flat_map, ◌||◌, if◌then◌else◌}
use Rattle.std.specs.List.{concat}
use Rattle.std.proofs.lemmas.Bool.{cases_Bool}
use Rattle.std.proofs.lemmas.List.{append-nil, take-append-drop}
use Rattle.std.proofs.lemmas.List.Elements.{All-cons, All-head, All-nil, All-tail}
use Rattle.kit.specs.Lines.{ending_len, raw_lines}
use Rattle.kit.proofs.LineLemmas.{concat-raw_lines}
use Rattle.mime_parts.specs.declared.multipart.Span.{Span}
use Rattle.mime_parts.specs.Multiparts.{Entry, IsCutAt, IsCutInto, IsPlain, IsEncapsulation, Encapsulation, cut, entry_bytes, is_any, is_closing, is_delimiter, joined, line_end, entry_spans, encapsulation_bytes, encapsulation_lines, span_at, spans, spans_at, text_of}
use Rattle.mime_parts.specs.Walks.{IsWithin}

pub concat-cut : (boundary : List ℕ) (ls : List (List ℕ))
    → concat (cut boundary ls).preamble ++ (flat_map encapsulation_bytes (cut boundary ls).encapsulations ++ concat (cut boundary ls).epilogue) ≡ concat ls
concat-cut boundary [] = refl
concat-cut boundary (l ∷ ls) =
    let more = cut boundary ls in
    let rest = flat_map encapsulation_bytes more.encapsulations ++ concat more.epilogue in
    let so_far : concat more.preamble ++ rest ≡ concat ls = concat-cut boundary ls in
    let through : (l ++ concat more.preamble) ++ rest ≡ l ++ concat ls = append_assoc l (concat more.preamble) rest ∙ ap (λ (bs : List ℕ). l ++ bs) so_far in
    elim (cases_Bool (is_closing boundary l)) [
      | inl closes ↦ rw closes refl
      | inr goes ↦ elim (cases_Bool (is_delimiter boundary l)) [
        | inl begins ↦ rw (goes, begins, append_assoc (l ++ concat more.preamble) (flat_map encapsulation_bytes more.encapsulations) (concat more.epilogue)) through
        | inr stays ↦ rw (goes, stays) through
      ]
    ]

-- lines put together are the bytes of a part, and the line end after it
abbrev last_ending : List (List ℕ) → List ℕ
last_ending [] = []
last_ending (l ∷ []) = line_end l
last_ending (l ∷ m ∷ ms) = last_ending (m ∷ ms)

joined-ending : (ls : List (List ℕ)) → joined ls ++ last_ending ls ≡ concat ls
joined-ending [] = refl
joined-ending (l ∷ []) = take-append-drop (length l - ending_len l) l ∙ sym (append-nil l)
joined-ending (l ∷ m ∷ ms) = append_assoc l (joined (m ∷ ms)) (last_ending (m ∷ ms)) ∙ ap (λ (bs : List ℕ). l ++ bs) (joined-ending (m ∷ ms))

abbrev ending_of : Bool → List (List ℕ) → List ℕ
ending_of followed ls = if followed then last_ending ls else []

text-ending : (followed : Bool) (ls : List (List ℕ)) → text_of followed ls ++ ending_of followed ls ≡ concat ls
text-ending true ls = joined-ending ls
text-ending false ls = append-nil (concat ls)

span_at-within : (len at : ℕ) (followed : Bool) (ls : List (List ℕ)) → at + length (concat ls) ≤ len → IsWithin len (span_at followed at ls)
span_at-within len at followed ls le =
    (omega arith, omega (arith, ap length (text-ending followed ls), length-append (text_of followed ls) (ending_of followed ls)))

spans_at-within : (len at : ℕ) (closed : Bool) (ss : List Encapsulation) → at + length (flat_map encapsulation_bytes ss) ≤ len → All (IsWithin len) (spans_at closed at ss)
spans_at-within len at closed [] le = All-nil (IsWithin len)
spans_at-within len at closed (s ∷ ss) le =
    let lens = length-append (s.delimiter ++ concat s.lines) (flat_map encapsulation_bytes ss) in
    let both = length-append s.delimiter (concat s.lines) in
    let start = at + length s.delimiter in
    All-cons (IsWithin len) (span_at _ start s.lines) (spans_at closed (start + length (concat s.lines)) ss)
    (span_at-within len start _ s.lines (omega (arith, lens, both)))
    (spans_at-within len (start + length (concat s.lines)) closed ss (omega (arith, lens, both)))

-- the parts of a multipart are in its content
pub spans-within : (boundary : List ℕ) (start : ℕ) (bytes : List ℕ) (len : ℕ) → start + length bytes ≤ len
    → All (IsWithin len) (spans boundary start bytes)
spans-within boundary start bytes len le =
    let c = cut boundary (raw_lines bytes) in
    let rest = flat_map encapsulation_bytes c.encapsulations ++ concat c.epilogue in
    spans_at-within len (start + length (concat c.preamble)) (is_any c.epilogue) c.encapsulations
    (omega (arith, ap length (concat-cut boundary (raw_lines bytes) ∙ concat-raw_lines bytes), length-append (concat c.preamble) rest, length-append (flat_map encapsulation_bytes c.encapsulations) (concat c.epilogue)))

-- ---- nothing is lost, and nothing is counted twice

abbrev entry : Bool → Encapsulation → Entry
entry followed s = record { delimiter = s.delimiter; text = text_of followed s.lines; ending = ending_of followed s.lines }

abbrev entries : Bool → List Encapsulation → List Entry
entries closed [] = []
entries closed (s ∷ ss) = entry (is_any ss || closed) s ∷ entries closed ss

entries-bytes : (closed : Bool) (ss : List Encapsulation) → flat_map entry_bytes (entries closed ss) ≡ flat_map encapsulation_bytes ss
entries-bytes closed [] = refl
entries-bytes closed (s ∷ ss) =
    ap (λ (bs : List ℕ). (s.delimiter ++ bs) ++ flat_map entry_bytes (entries closed ss)) (text-ending (is_any ss || closed) s.lines)
    ∙ ap (λ (bs : List ℕ). encapsulation_bytes s ++ bs) (entries-bytes closed ss)

entries-spans : (closed : Bool) (at : ℕ) (ss : List Encapsulation) → entry_spans at (entries closed ss) ≡ spans_at closed at ss
entries-spans closed at [] = refl
entries-spans closed at (s ∷ ss) =
    let start = at + length s.delimiter in
    let here = span_at (is_any ss || closed) start s.lines in
    ap (λ (bs : List ℕ). here ∷ entry_spans (start + length bs) (entries closed ss)) (text-ending (is_any ss || closed) s.lines)
    ∙ ap (λ (ps : List Span). here ∷ ps) (entries-spans closed (start + length (concat s.lines)) ss)

abbrev IsLineEnd : List ℕ → Type 0
IsLineEnd bytes = (raw : List ℕ) × (bytes ≡ line_end raw)

last_ending-line_end : (ls : List (List ℕ)) → IsLineEnd (last_ending ls)
last_ending-line_end [] = ([], refl)
last_ending-line_end (l ∷ []) = (l, refl)
last_ending-line_end (l ∷ m ∷ ms) = last_ending-line_end (m ∷ ms)

ending-line_end : (followed : Bool) (ls : List (List ℕ)) → IsLineEnd (ending_of followed ls)
ending-line_end true ls = last_ending-line_end ls
ending-line_end false ls = ([], refl)

entries-endings : (closed : Bool) (ss : List Encapsulation) → All (λ e. IsLineEnd e.ending) (entries closed ss)
entries-endings closed [] = All-nil (λ (e : Entry). IsLineEnd e.ending)
entries-endings closed (s ∷ ss) =
    All-cons (λ (e : Entry). IsLineEnd e.ending) (entry (is_any ss || closed) s) (entries closed ss) (ending-line_end (is_any ss || closed) s.lines) (entries-endings closed ss)

abbrev IsBegun : List ℕ → Encapsulation → Type 0
IsBegun boundary s = IsTrue (is_delimiter boundary s.delimiter)

cut-delimiters : (boundary : List ℕ) (ls : List (List ℕ)) → All (IsBegun boundary) (cut boundary ls).encapsulations
cut-delimiters boundary [] = All-nil (IsBegun boundary)
cut-delimiters boundary (l ∷ ls) = elim (cases_Bool (is_closing boundary l)) [
  | inl closes ↦ rw closes (All-nil (IsBegun boundary))
  | inr goes ↦ elim (cases_Bool (is_delimiter boundary l)) [
    | inl begins ↦ rw (goes, begins) (All-cons (IsBegun boundary) (record { delimiter = l; lines = (cut boundary ls).preamble }) (cut boundary ls).encapsulations begins (cut-delimiters boundary ls))
    | inr stays ↦ rw (goes, stays) (cut-delimiters boundary ls)
  ]
]

entries-delimiters : (boundary : List ℕ) (closed : Bool) (ss : List Encapsulation) → All (IsBegun boundary) ss → All (λ e. IsTrue (is_delimiter boundary e.delimiter)) (entries closed ss)
entries-delimiters boundary closed [] all = All-nil (λ (e : Entry). IsTrue (is_delimiter boundary e.delimiter))
entries-delimiters boundary closed (s ∷ ss) all =
    All-cons (λ (e : Entry). IsTrue (is_delimiter boundary e.delimiter)) (entry (is_any ss || closed) s) (entries closed ss)
    (All-head (IsBegun boundary) s ss all) (entries-delimiters boundary closed ss (All-tail (IsBegun boundary) s ss all))

pub spans-cut : (boundary : List ℕ) (start : ℕ) (bytes : List ℕ) → IsCutAt boundary start bytes (spans boundary start bytes)
spans-cut boundary start bytes =
    let c = cut boundary (raw_lines bytes) in
    let closed = is_any c.epilogue in
    record {
      preamble = concat c.preamble;
      entries = entries closed c.encapsulations;
      epilogue = concat c.epilogue;
      whole = ap (λ (bs : List ℕ). concat c.preamble ++ (bs ++ concat c.epilogue)) (entries-bytes closed c.encapsulations) ∙ concat-cut boundary (raw_lines bytes) ∙ concat-raw_lines bytes;
      parts = entries-spans closed (start + length (concat c.preamble)) c.encapsulations;
      delimiters = entries-delimiters boundary closed c.encapsulations (cut-delimiters boundary (raw_lines bytes));
      endings = entries-endings closed c.encapsulations;
    }

-- ---- the lines of a multipart, by their grammar

cut-into-step : (boundary l : List ℕ) (ls : List (List ℕ)) → IsCutInto boundary ls (cut boundary ls) → IsCutInto boundary (l ∷ ls) (cut boundary (l ∷ ls))
cut-into-step boundary l ls so_far =
    let more = cut boundary ls in
    elim (cases_Bool (is_closing boundary l)) [
      | inl closes ↦ rw closes (record { whole = refl; preamble = All-nil (IsPlain boundary); encapsulations = All-nil (IsEncapsulation boundary); epilogue = closes })
      | inr goes ↦ elim (cases_Bool (is_delimiter boundary l)) [
        | inl begins ↦ rw (goes, begins) (record {
          whole = ap (λ (ms : List (List ℕ)). l ∷ ms) (append_assoc more.preamble (flat_map encapsulation_lines more.encapsulations) more.epilogue ∙ so_far.whole);
          preamble = All-nil (IsPlain boundary);
          encapsulations = All-cons (IsEncapsulation boundary) (record { delimiter = l; lines = more.preamble }) more.encapsulations (begins, so_far.preamble) so_far.encapsulations;
          epilogue = so_far.epilogue;
        })
        | inr stays ↦ rw (goes, stays) (record {
          whole = ap (λ (ms : List (List ℕ)). l ∷ ms) so_far.whole;
          preamble = All-cons (IsPlain boundary) l more.preamble (goes, stays) so_far.preamble;
          encapsulations = so_far.encapsulations;
          epilogue = so_far.epilogue;
        })
      ]
    ]

pub cut-into : (boundary : List ℕ) (ls : List (List ℕ)) → IsCutInto boundary ls (cut boundary ls)
cut-into boundary [] = record { whole = refl; preamble = All-nil (IsPlain boundary); encapsulations = All-nil (IsEncapsulation boundary); epilogue = tt }
cut-into boundary (l ∷ ls) = cut-into-step boundary l ls (cut-into boundary ls)
