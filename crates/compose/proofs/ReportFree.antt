-- No line of a written report begins as a separator, and its last byte is an LF.
use Rattle.std.proofs.Common.{◌≡◌, ℕ, true, List, [], ◌∷◌, ◌++◌, refl, sym, ap, ◌∙◌, append_assoc}
use Rattle.std.specs.Prelude.{codes}
use Rattle.std.proofs.lemmas.List.{append-nil}
use Rattle.base64.specs.Engines.{standard}
use Rattle.base64.specs.GeneralPurpose.{encode_of, IsBytes}
use Rattle.kit.specs.Addresses.{is_addr}
use Rattle.kit.specs.Ids.{is_id}
use Rattle.kit.specs.Lines.{raw_lines}
use Rattle.compose.specs.Fields.{ended, header_lines}
use Rattle.compose.specs.Intended.{notification}
use Rattle.compose.specs.Mails.{notification_fields, report, text_fields}
use Rattle.compose.specs.Written.{body_text, in_lines}
use Rattle.compose.proofs.CutBack.{closing, opening, raw_lines-parts}
use Rattle.compose.proofs.FieldsBack.{are_lines, raw_lines-ended}
use Rattle.compose.proofs.FreeLines.{AreFree, body_free, none, put, slots_free, with_lf}
use Rattle.compose.proofs.MailsBack.{are_free, is_free}
use Rattle.compose.proofs.NotificationBack.{first_lines, last_line, note_is, note_slots, note_slots_are}
use Rattle.compose.proofs.Printings.{all_both}
use Rattle.compose.proofs.Reports.{note_part, report_is, text_part, text_part-lf}

-- ---- the last byte

pub report_end : (bs note : List ℕ) → (ys : List ℕ) × (report (in_lines bs) note ≡ ys ++ 10 ∷ [])
report_end bs note =
    let p = text_part bs ++ 10 ∷ [] in
    let q = note_part note ++ 10 ∷ [] in
    let last = codes "--=_chats--" in
    let lf : List ℕ = 10 ∷ [] in
    let one : q ++ closing ≡ (q ++ last) ++ lf = sym (append_assoc q last lf) in
    let two : opening ++ (q ++ closing) ≡ (opening ++ (q ++ last)) ++ lf = ap (λ (xs : List ℕ). opening ++ xs) one in
    let three : p ++ (opening ++ (q ++ closing)) ≡ (p ++ (opening ++ (q ++ last))) ++ lf = ap (λ (xs : List ℕ). p ++ xs) two ∙ sym (append_assoc p (opening ++ (q ++ last)) lf) in
    (opening ++ (p ++ (opening ++ (q ++ last))), report_is bs note ∙ ap (λ (xs : List ℕ). opening ++ xs) three)

-- ---- the lines of the notification, of which the last has an LF here

ended_last : (ls : List (List ℕ)) (l : List ℕ) → ended (ls ++ (l ∷ [])) ≡ (ended ls ++ l) ++ (10 ∷ [])
ended_last [] l = append-nil (l ++ (10 ∷ []))
ended_last (x ∷ xs) l =
    ap (λ (bs : List ℕ). (x ++ (10 ∷ [])) ++ bs) (ended_last xs l)
    ∙ sym (append_assoc (x ++ (10 ∷ [])) (ended xs ++ l) (10 ∷ []))
    ∙ ap (λ (bs : List ℕ). bs ++ (10 ∷ [])) (sym (append_assoc (x ++ (10 ∷ [])) (ended xs) l))

note_ended : (from id : List ℕ) → ended (header_lines (note_slots from id)) ≡ notification from id ++ (10 ∷ [])
note_ended from id = ended_last (first_lines from id) last_line ∙ ap (λ (bs : List ℕ). bs ++ (10 ∷ [])) (note_is from id)

note_names : (from id : List ℕ) → AreFree (note_slots from id)
note_names from id = put _ _ _ (λ rest. refl) (put _ _ _ (λ rest. refl) (put _ _ _ (λ rest. refl) none))

text_names : AreFree text_fields
text_names = put _ _ _ (λ rest. refl) (put _ _ _ (λ rest. refl) none)

part_names : AreFree notification_fields
part_names = put _ _ _ (λ rest. refl) none

note_free : (from id : List ℕ) → is_addr from ≡ true → is_id id ≡ true → are_free (raw_lines (notification from id ++ (10 ∷ []))) ≡ true
note_free from id f i =
    let lines = header_lines (note_slots from id) in
    ap (λ bytes. are_free (raw_lines bytes)) (sym (note_ended from id) ∙ sym (append-nil (ended lines)))
    ∙ ap are_free (raw_lines-ended lines [] (are_lines (note_slots from id) (note_slots_are from id f i)))
    ∙ all_both is_free (with_lf lines) [] (note_names from id).all refl

-- ---- all lines

pub report_free : (text from id : List ℕ) → IsBytes text → is_addr from ≡ true → is_id id ≡ true → are_free (raw_lines (report (body_text text) (notification from id))) ≡ true
report_free text from id h f i =
    let bs = encode_of standard text in
    let note = notification from id in
    let ls = raw_lines (text_part bs ++ 10 ∷ []) in
    let ms = raw_lines (note_part note ++ 10 ∷ []) in
    let first : are_free ls ≡ true = ap (λ bytes. are_free (raw_lines bytes)) (text_part-lf bs) ∙ slots_free text_fields (in_lines bs) text_names refl (body_free text h) in
    let second : are_free ms ≡ true = slots_free notification_fields (note ++ (10 ∷ [])) part_names refl (note_free from id f i) in
    ap are_free (ap raw_lines (report_is bs note) ∙ raw_lines-parts (text_part bs) (note_part note))
    ∙ all_both is_free ls (opening ∷ (ms ++ (closing ∷ []))) first (all_both is_free ms (closing ∷ []) second refl)
