-- What a written receipt shows, and the mail that it is for.
use Rattle.std.proofs.Common.{◌≡◌, ℕ, ◌+◌, ◌==◌, Bool, true, false, not, List, [], ◌∷◌, ◌++◌, length, map, Option, Some, None, refl, sym, ap, ◌∙◌, arith, append_assoc, length-append}
use Rattle.std.specs.Prelude.{codes, nat_le, if◌then◌else◌}
use Rattle.std.specs.Str.{IsUtf8, is_utf8, chars}
use Rattle.std.specs.Str.Lossy.{utf8_lossy, utf8_valid_len, utf8_error_len}
use Rattle.std.proofs.lemmas.Str.{utf8_lossy-IsUtf8}
use Rattle.base64.specs.Engines.{standard}
use Rattle.base64.specs.GeneralPurpose.{encode_of}
use Rattle.flowed_text.specs.Flowed.{user_text}
use Rattle.kit.specs.Addresses.{is_addr}
use Rattle.kit.specs.Ids.{is_id}
use Rattle.mail_headers.specs.Headers.{Head, field, header_of}
use Rattle.transfer_code.specs.declared.encoding.Encoding.{Encoding}
use Rattle.transfer_code.specs.declared.encoding.Encoding.TheVariants.{Base64, Plain}
use Rattle.transfer_code.specs.Base64.{decode_base64}
use Rattle.transfer_code.specs.Encodings.{encoding_of}
use Rattle.mime_fields.specs.Kinds.{Kind, content_type_in, disposition}
use Rattle.mime_parts.specs.declared.multipart.Span.{Span}
use Rattle.mime_parts.specs.declared.part.PartNode.{PartNode}
use Rattle.mime_parts.specs.Multiparts.{bytes_at, spans}
use Rattle.mime_parts.specs.Trees.{Grown, Part, boundary_of, each, file_name, grown, is_digest, kind_of, node_of, opened, part, part_at, tree}
use Rattle.part_read.specs.Receipts.{receipt}
use Rattle.chat_card.specs.Contents.{contents_in, contents_of, contents_with}
use Rattle.chat_card.specs.Parts as card
use Rattle.chat_card.specs.Receipts.{receipt_of}
use Rattle.chat_card.specs.declared.contents.Contents.{Contents}
use Rattle.compose.specs.Intended.{notification, notifications}
use Rattle.compose.specs.Mails.{report, report_type}
use Rattle.compose.specs.Written.{body_text}
use Rattle.compose.proofs.Base64Back.{coded_by, decode-inner, inner}
use Rattle.compose.proofs.CutBack.{boundary, bytes_in, closing, first_span, opening, parts_text, second_span, span, spans-parts}
use Rattle.compose.proofs.NotificationBack.{receipt_back}
use Rattle.compose.proofs.LineEnds.{is_no_cr}
use Rattle.compose.proofs.Pieces.{text_bytes}
use Rattle.compose.proofs.Reports.{header_note, header_text, note_calm, note_front, note_head, note_no_cr, note_part, report_is, text_calm, text_front, text_head, text_no_cr, text_part}
use Rattle.compose.proofs.ContentsBack.{read_plainly}
use Rattle.compose.proofs.TreeBack.{grown_leaf, plain_kind, whole_body}

-- ---- what the written types say

abbrev pub report_kind : Kind
report_kind = record {
  top = codes "multipart";
  sub = codes "report";
  params = record { name = codes "report-type"; value = codes "disposition-notification" } ∷ record { name = codes "boundary"; value = boundary } ∷ [];
}

report_kind_back : content_type_in false report_type ≡ report_kind
unfolding utf8_lossy utf8_valid_len utf8_error_len is_utf8 chars lib.Utf8.encode
report_kind_back = refl

abbrev pub note_kind : Kind
note_kind = record { top = codes "message"; sub = codes "disposition-notification"; params = [] }

-- a leaf right below the mail
abbrev leaf_node : Kind → Encoding → ℕ → ℕ → PartNode
leaf_node kind encoding start end =
    record { depth = 1; kind = kind; encoding = encoding; attach = false; reaction = false; name = []; start = start; end = end; leaf = true }

text_leaf : (at start end : ℕ) → node_of 15 false (part (text_head at) (span start end)) true ≡ leaf_node plain_kind Base64 start end
unfolding utf8_lossy utf8_valid_len utf8_error_len is_utf8 chars lib.Utf8.encode
text_leaf at start end = refl

text_uncut : (at : ℕ) → boundary_of (kind_of false (text_head at)) ≡ None
unfolding utf8_lossy utf8_valid_len utf8_error_len is_utf8 chars lib.Utf8.encode
text_uncut at = refl

note_leaf : (start end : ℕ) → node_of 15 false (part note_head (span start end)) true ≡ leaf_node note_kind Plain start end
unfolding utf8_lossy utf8_valid_len utf8_error_len is_utf8 chars lib.Utf8.encode
note_leaf start end = refl

note_uncut : boundary_of (kind_of false note_head) ≡ None
unfolding utf8_lossy utf8_valid_len utf8_error_len is_utf8 chars lib.Utf8.encode
note_uncut = refl

-- ---- the tree

module _ (head : Head) (body : List ℕ) (s t : Span) where
  abbrev whole : Part
  whole = part head (span 0 (length body))

  abbrev root : Kind → PartNode
  root kind = record {
    depth = 0;
    kind = kind;
    encoding = encoding_of (field head (codes "Content-Transfer-Encoding"));
    attach = (disposition (field head (codes "Content-Disposition"))).attach;
    reaction = (disposition (field head (codes "Content-Disposition"))).reaction;
    name = file_name (disposition (field head (codes "Content-Disposition"))).name kind;
    start = 0;
    end = length body;
    leaf = false;
  }

  abbrev grow : Kind → Span → ℕ → Grown
  grow kind span known = grown body 15 (is_digest kind) (part_at body span) known

  opened_two : kind_of false head ≡ report_kind → spans boundary 0 body ≡ s ∷ t ∷ [] → opened body 16 (kind_of false head) (span 0 (length body)) 1 ≡ s ∷ t ∷ []
  opened_two kind two =
      ap (λ kind. opened body 16 kind (span 0 (length body)) 1) kind
      ∙ ap (λ bytes. let found = spans boundary 0 bytes in if nat_le (1 + length found) 1000 then found else []) (whole_body body)
      ∙ ap (λ (found : List Span). if nat_le (1 + length found) 1000 then found else []) two

  abbrev after_first : ℕ
  after_first = (grow report_kind s 3).known

  pub tree_two : kind_of false head ≡ report_kind → spans boundary 0 body ≡ s ∷ t ∷ []
      → tree head body ≡ root report_kind ∷ ((grow report_kind s 3).nodes ++ ((grow report_kind t after_first).nodes ++ []))
  tree_two kind two =
      ap (λ (within : List Span). node_of 16 false whole (length within == 0) ∷ (each (grow (kind_of false head)) within (1 + length within)).nodes) (opened_two kind two)
      ∙ ap (λ kind. root kind ∷ (each (grow kind) (s ∷ t ∷ []) 3).nodes) kind

-- ---- the two parts

module _ (head : Head) (bs note : List ℕ) where
  abbrev body : List ℕ
  body = parts_text (text_part bs) (note_part note)

  abbrev first : Span
  first = first_span (text_part bs)

  abbrev second : Span
  second = second_span (text_part bs) (note_part note)

  abbrev text_at : PartNode
  text_at = leaf_node plain_kind Base64 (10 + length (text_front bs)) first.end

  abbrev note_at : PartNode
  note_at = leaf_node note_kind Plain (second.start + length note_front) second.end

  abbrev late : List ℕ
  late = opening ++ ((note_part note ++ 10 ∷ []) ++ closing)

  abbrev before : List ℕ
  before = opening ++ ((text_part bs ++ 10 ∷ []) ++ opening)

  -- the parts, and their contents, between what stands before and after them
  first_between : bytes_at body first ≡ text_part bs
  first_between =
      bytes_in body opening (text_part bs) (10 ∷ late) 10 first.end (ap (λ (xs : List ℕ). opening ++ xs) (append_assoc (text_part bs) (10 ∷ []) late)) refl refl

  text_between : bytes_at body (span (10 + length (text_front bs)) first.end) ≡ inner bs
  text_between =
      bytes_in body (opening ++ text_front bs) (inner bs) (10 ∷ late) (10 + length (text_front bs)) first.end
      (ap (λ (xs : List ℕ). opening ++ xs) (append_assoc (text_part bs) (10 ∷ []) late ∙ append_assoc (text_front bs) (inner bs) (10 ∷ late)))
      (omega arith) (omega (arith, length-append (text_front bs) (inner bs)))

  before_second : body ≡ before ++ (note_part note ++ (10 ∷ closing))
  before_second =
      ap (λ (xs : List ℕ). opening ++ ((text_part bs ++ 10 ∷ []) ++ (opening ++ xs))) (append_assoc (note_part note) (10 ∷ []) closing)
      ∙ ap (λ (xs : List ℕ). opening ++ xs) (sym (append_assoc (text_part bs ++ 10 ∷ []) opening (note_part note ++ (10 ∷ closing))))

  before_len : length before ≡ 10 + length (text_part bs ++ 10 ∷ []) + 10
  before_len = omega (arith, length-append (text_part bs ++ 10 ∷ []) opening)

  second_between : bytes_at body second ≡ note_part note
  second_between = bytes_in body before (note_part note) (10 ∷ closing) second.start second.end before_second before_len refl

  note_between : bytes_at body (span (second.start + length note_front) second.end) ≡ note
  note_between =
      bytes_in body (before ++ note_front) note (10 ∷ closing) (second.start + length note_front) second.end
      (before_second ∙ sym (append_assoc before note_front (note ++ (10 ∷ closing))))
      (length-append before note_front ∙ ap (λ n. n + length note_front) before_len) (omega arith)

  first_part : part_at body first ≡ part (text_head (length (text_front bs))) (span (10 + length (text_front bs)) first.end)
  first_part =
      ap (λ bytes. part (header_of bytes) (span (10 + (header_of bytes).body_at) first.end)) first_between
      ∙ ap (λ (h : Head). part h (span (10 + h.body_at) first.end)) (header_text bs)

  second_part : part_at body second ≡ part note_head (span (second.start + length note_front) second.end)
  second_part =
      ap (λ bytes. part (header_of bytes) (span (second.start + (header_of bytes).body_at) second.end)) second_between
      ∙ ap (λ (h : Head). part h (span (second.start + h.body_at) second.end)) (header_note note)

  first_node : (known : ℕ) → (grown body 15 false (part_at body first) known).nodes ≡ text_at ∷ []
  first_node known =
      let at = length (text_front bs) in
      ap (λ p. (grown body 15 false p known).nodes) first_part
      ∙ grown_leaf body 14 false (part (text_head at) (span (10 + at) first.end)) known (text_uncut at)
      ∙ ap (λ (n : PartNode). n ∷ []) (text_leaf at (10 + at) first.end)

  second_node : (known : ℕ) → (grown body 15 false (part_at body second) known).nodes ≡ note_at ∷ []
  second_node known =
      ap (λ p. (grown body 15 false p known).nodes) second_part
      ∙ grown_leaf body 14 false (part note_head (span (second.start + length note_front) second.end)) known note_uncut
      ∙ ap (λ (n : PartNode). n ∷ []) (note_leaf (second.start + length note_front) second.end)

  tree_report : kind_of false head ≡ report_kind → spans boundary 0 body ≡ first ∷ second ∷ []
      → tree head body ≡ root head body first second report_kind ∷ text_at ∷ note_at ∷ []
  tree_report kind two =
      let top = root head body first second report_kind in
      tree_two head body first second kind two
      ∙ ap (λ (ns : List PartNode). top ∷ (ns ++ ((grown body 15 false (part_at body second) (after_first head body first second)).nodes ++ []))) (first_node 3)
      ∙ ap (λ (ns : List PartNode). top ∷ text_at ∷ (ns ++ [])) (second_node (after_first head body first second))

  abbrev held : PartNode → List ℕ → card.Part
  held node content = record { node = node; content = content }

  abbrev told : List ℕ → List ℕ → Option (List ℕ) → Contents
  told text note receipt = record {
    text = text;
    attachments = record { kind = codes "message/disposition-notification"; name = []; size = length note } ∷ [];
    receipt = receipt;
    app = false;
    updates = [];
    reaction = None;
  }

  abbrev three : List ℕ → List card.Part
  three text = held (root head body first second report_kind) [] ∷ held text_at text ∷ held note_at note ∷ []

  contents_three : (text : List ℕ) → contents_with (receipt_of (three text)) None (three text) ≡ told (user_text (utf8_lossy text)) note (receipt note)
  contents_three text = refl

  pub contents_two : (is_reply : Bool) (edit : Option (List ℕ)) → kind_of false head ≡ report_kind → spans boundary 0 body ≡ first ∷ second ∷ [] → (text : List ℕ) → decode_base64 (inner bs) ≡ text
      → contents_of is_reply edit head body ≡ told (user_text (utf8_lossy text)) note (receipt note)
  contents_two is_reply edit kind two text decoded =
      let top = root head body first second report_kind in
      ap (λ nodes. contents_in is_reply edit (map (card.part body) nodes)) (tree_report kind two)
      ∙ ap (λ bytes. contents_in is_reply edit (held top [] ∷ held text_at (decode_base64 bytes) ∷ held note_at (bytes_at body (span (second.start + length note_front) second.end)) ∷ [])) text_between
      ∙ ap (λ (bytes : List ℕ). contents_in is_reply edit (held top [] ∷ held text_at bytes ∷ held note_at (bytes_at body (span (second.start + length note_front) second.end)) ∷ [])) decoded
      ∙ ap (λ (bytes : List ℕ). contents_in is_reply edit (held top [] ∷ held text_at text ∷ held note_at bytes ∷ [])) note_between
      ∙ read_plainly is_reply edit (three text) refl
      ∙ contents_three text

-- ---- the whole

abbrev pub shows_receipt : List ℕ → List ℕ → List ℕ → Contents
shows_receipt from id text = record { text = text; attachments = notifications from (Some id); receipt = Some id; app = false; updates = []; reaction = None }

pub contents_report : (is_reply : Bool) (edit : Option (List ℕ)) (head : Head) (from id text : List ℕ) → field head (codes "Content-Type") ≡ report_type → is_addr from ≡ true → is_id id ≡ true
    → IsUtf8 text → user_text text ≡ text → contents_of is_reply edit head (report (body_text text) (notification from id)) ≡ shows_receipt from id text
contents_report is_reply edit head from id text type f i u own =
    let h = text_bytes text u in
    let bs = encode_of standard text in
    let note = notification from id in
    let kind : kind_of false head ≡ report_kind = ap (content_type_in false) type ∙ report_kind_back in
    let two = spans-parts (text_part bs) (note_part note) (text_no_cr bs (coded_by is_no_cr refl refl text h)) (note_no_cr from id f i)
    (text_calm bs (coded_by (λ b. not (45 == b)) refl refl text h)) (note_calm from id f i) in
    ap (contents_of is_reply edit head) (report_is bs note)
    ∙ contents_two head bs note is_reply edit kind two text (decode-inner text h)
    ∙ ap (λ t. told head bs note t note (receipt note)) (ap user_text (utf8_lossy-IsUtf8 text u) ∙ own)
    ∙ ap (told head bs note text note) (receipt_back from id f i)
