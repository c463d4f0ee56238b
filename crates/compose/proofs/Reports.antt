-- A written report is two parts between delimiter lines, and the header of each is read.
use Rattle.std.proofs.Common.{◌≡◌, ℕ, ◌==◌, true, false, not, List, [], ◌∷◌, ◌++◌, length, refl, sym, ap, ◌∙◌, arith, append_assoc}
use Rattle.std.specs.Prelude.{codes, filter_map}
use Rattle.std.specs.List.{list_all}
use Rattle.std.proofs.lemmas.Bool.{and_parts}
use Rattle.std.proofs.lemmas.Bool.Decides.{nat_tests}
use Rattle.kit.specs.Addresses.{is_addr}
use Rattle.kit.specs.Ids.{is_id}
use Rattle.kit.specs.Printing.{is_printing_byte}
use Rattle.mail_headers.specs.Headers.{Head, header_of}
use Rattle.compose.specs.Intended.{notification}
use Rattle.compose.specs.Mails.{notification_fields, report, text_fields}
use Rattle.compose.specs.Written.{in_lines}
use Rattle.compose.proofs.Base64Back.{all_inner, inner, unended, unended-lf}
use Rattle.compose.proofs.CutBack.{closing, opening, parts_text}
use Rattle.compose.proofs.FieldsBack.{header_of-slots, slot_field}
use Rattle.compose.proofs.LineEnds.{is_no_cr, printing_no_cr}
use Rattle.compose.proofs.PartLines.{calm, calm-all, calm-within}
use Rattle.compose.proofs.Printings.{addr_printing, all_both, all_of, id_printing}

-- ---- the text, by its bytes in base64: an empty one leaves no empty line after the header

abbrev pub text_front : List ℕ → List ℕ
text_front [] = codes "Content-Type: text/plain; charset=utf-8\nContent-Transfer-Encoding: base64\n"
text_front (b ∷ bs) = codes "Content-Type: text/plain; charset=utf-8\nContent-Transfer-Encoding: base64\n\n"

abbrev pub text_part : List ℕ → List ℕ
text_part bs = text_front bs ++ inner bs

abbrev pub front_line : List ℕ
front_line = codes "Content-Type: text/plain; charset=utf-8\nContent-Transfer-Encoding: base64\n\n"

pub text_part-lf : (bs : List ℕ) → text_part bs ++ (10 ∷ []) ≡ front_line ++ in_lines bs
text_part-lf [] = refl
text_part-lf (b ∷ bs) = ap (λ (xs : List ℕ). front_line ++ (b ∷ xs)) (unended-lf 75 bs)

abbrev pub text_head : ℕ → Head
text_head at = record { fields = filter_map slot_field text_fields; body_at = at }

pub header_text : (bs : List ℕ) → header_of (text_part bs) ≡ text_head (length (text_front bs))
header_text [] = refl
header_text (b ∷ bs) = header_of-slots text_fields (b ∷ unended 75 bs) refl

-- ---- the notification

abbrev pub note_front : List ℕ
note_front = codes "Content-Type: message/disposition-notification\n\n"

abbrev pub note_part : List ℕ → List ℕ
note_part note = note_front ++ note

abbrev pub note_head : Head
note_head = record { fields = filter_map slot_field notification_fields; body_at = length note_front }

pub header_note : (note : List ℕ) → header_of (note_part note) ≡ note_head
header_note note = header_of-slots notification_fields note refl

-- ---- the report

pub report_is : (bs note : List ℕ) → report (in_lines bs) note ≡ parts_text (text_part bs) (note_part note)
report_is bs note =
    ap (λ (xs : List ℕ). opening ++ (front_line ++ (in_lines bs ++ (opening ++ (note_front ++ xs))))) (sym (append_assoc note (10 ∷ []) closing))
    ∙ ap (λ (xs : List ℕ). opening ++ (xs ++ (opening ++ ((note_part note ++ 10 ∷ []) ++ closing)))) (sym (text_part-lf bs))

-- ---- its lines

no_cr_front : (bs : List ℕ) → list_all is_no_cr (text_front bs) ≡ true
no_cr_front [] = refl
no_cr_front (b ∷ bs) = refl

pub text_no_cr : (bs : List ℕ) → list_all is_no_cr bs ≡ true → list_all is_no_cr (text_part bs) ≡ true
text_no_cr bs all = all_both is_no_cr (text_front bs) (inner bs) (no_cr_front bs) (all_inner is_no_cr refl bs all)

no_hyphen_lines : (bs : List ℕ) → list_all (λ b. not (45 == b)) bs ≡ true → calm true (in_lines bs) ≡ true
no_hyphen_lines [] all = refl
no_hyphen_lines (b ∷ bs) all =
    let parts = and_parts (not (45 == b)) (list_all (λ b. not (45 == b)) bs) all in
    ap (λ (xs : List ℕ). calm true (b ∷ xs)) (sym (unended-lf 75 bs))
    ∙ calm-all true (inner (b ∷ bs) ++ (10 ∷ [])) (all_both (λ b. not (45 == b)) (inner (b ∷ bs)) (10 ∷ []) (all_inner (λ b. not (45 == b)) refl (b ∷ bs) all) refl)

pub text_calm : (bs : List ℕ) → list_all (λ b. not (45 == b)) bs ≡ true → calm true (text_part bs ++ (10 ∷ [])) ≡ true
text_calm bs all = ap (calm true) (text_part-lf bs) ∙ no_hyphen_lines bs all

printing_no_lf : (b : ℕ) → is_printing_byte b ≡ true → not (b == 10) ≡ true
printing_no_lf b h = grind (arith, nat_tests)

pub note_no_cr : (from id : List ℕ) → is_addr from ≡ true → is_id id ≡ true → list_all is_no_cr (note_part (notification from id)) ≡ true
note_no_cr from id f i =
    all_both is_no_cr from (codes "\nOriginal-Message-ID: <" ++ (id ++ codes ">\nDisposition: manual-action/MDN-sent-automatically; displayed"))
    (all_of is_printing_byte is_no_cr printing_no_cr from (addr_printing from f))
    (all_both is_no_cr id (codes ">\nDisposition: manual-action/MDN-sent-automatically; displayed")
    (all_of is_printing_byte is_no_cr printing_no_cr id (id_printing id i)) refl)

pub note_calm : (from id : List ℕ) → is_addr from ≡ true → is_id id ≡ true → calm true (note_part (notification from id) ++ (10 ∷ [])) ≡ true
note_calm from id f i =
    let last = codes ">\nDisposition: manual-action/MDN-sent-automatically; displayed" in
    ap (calm false) (append_assoc from (codes "\nOriginal-Message-ID: <" ++ (id ++ last)) (10 ∷ []))
    ∙ calm-within from (codes "\nOriginal-Message-ID: <" ++ ((id ++ last) ++ (10 ∷ [])))
    (all_of is_printing_byte (λ b. not (b == 10)) printing_no_lf from (addr_printing from f))
    (ap (calm false) (append_assoc id last (10 ∷ []))
    ∙ calm-within id (last ++ (10 ∷ [])) (all_of is_printing_byte (λ b. not (b == 10)) printing_no_lf id (id_printing id i)) refl)
