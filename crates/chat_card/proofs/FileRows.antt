-- Worked rows of receipts, apps and updates, which compute.
use Rattle.std.proofs.Common.{◌≡◌, ℕ, true, false, List, [], ◌∷◌, ◌++◌, ◌+◌, Option, Some, None, codes, map, refl}
use Rattle.std.specs.Str.{is_utf8, chars}
use Rattle.std.specs.Str.Lossy.{utf8_lossy, utf8_valid_len, utf8_error_len}
use Rattle.std.specs.Fmt.{digits}
use Rattle.std.specs.Result.{result_ok}
use Rattle.part_read.specs.Updates.{updates}
use Rattle.chat_card.specs.Files.{has_app, other_files, updates_in}
use Rattle.chat_card.specs.Receipts.{receipt_of}
use Rattle.chat_card.specs.Shown.{files}
use Rattle.chat_card.proofs.ShownRows.{in_mail, multipart, plain}

-- ---- receipts

abbrev receipt_in : List ℕ → Option (List ℕ)
receipt_in mail = receipt_of (in_mail mail)

abbrev report : List (List ℕ) → List ℕ
report ps = multipart (codes "report; report-type=disposition-notification") (codes "b") ps

abbrev notification : List ℕ
notification = codes "Content-Type: message/disposition-notification\n\nOriginal-Message-ID: <o1@x.org>\nDisposition: manual-action/MDN-sent-automatically; displayed\n"

displayed : receipt_in (report (codes "Content-Type: text/plain\n\nRead.\n" ∷ notification ∷ [])) ≡ Some (codes "o1@x.org")
unfolding utf8_lossy utf8_valid_len utf8_error_len is_utf8 chars lib.Utf8.encode digits
displayed = refl

report_of_another_type : receipt_in (multipart (codes "report; report-type=delivery-status") (codes "b") (notification ∷ [])) ≡ None
unfolding utf8_lossy utf8_valid_len utf8_error_len is_utf8 chars lib.Utf8.encode digits
report_of_another_type = refl

no_report : receipt_in (multipart (codes "mixed; report-type=disposition-notification") (codes "b") (notification ∷ [])) ≡ None
unfolding utf8_lossy utf8_valid_len utf8_error_len is_utf8 chars lib.Utf8.encode digits
no_report = refl

-- a report in a mail is not the mail
report_within : receipt_in (multipart (codes "mixed") (codes "c") (report (notification ∷ []) ∷ [])) ≡ None
unfolding utf8_lossy utf8_valid_len utf8_error_len is_utf8 chars lib.Utf8.encode digits
report_within = refl

-- nor is a notification deeper in a report one of it
notification_within : receipt_in (report (multipart (codes "mixed") (codes "c") (notification ∷ []) ∷ [])) ≡ None
unfolding utf8_lossy utf8_valid_len utf8_error_len is_utf8 chars lib.Utf8.encode digits
notification_within = refl

-- only the first one is read
second_notification : receipt_in (report (codes "Content-Type: message/disposition-notification\n\n" ∷ notification ∷ [])) ≡ None
unfolding utf8_lossy utf8_valid_len utf8_error_len is_utf8 chars lib.Utf8.encode digits
second_notification = refl

-- ---- apps and updates

-- a mail with files of these names, of which the contents are their numbers
abbrev with_files : List (List ℕ) → List ℕ
with_files names = multipart (codes "mixed") (codes "b") (plain ∷ parts 48 names)
  where
    parts : ℕ → List (List ℕ) → List (List ℕ)
    parts number [] = []
    parts number (name ∷ names) = (codes "Content-Disposition: attachment; filename=\"" ++ (name ++ codes "\"\n\n") ++ number ∷ 10 ∷ []) ∷ parts (number + 1) names

app_in : has_app (files (in_mail (with_files (codes "a.txt" ∷ codes "chess.Xdc" ∷ [])))) ≡ true
unfolding utf8_lossy utf8_valid_len utf8_error_len is_utf8 chars lib.Utf8.encode digits
app_in = refl

no_app : has_app (files (in_mail (with_files (codes "xdc" ∷ codes "chess.xdc.zip" ∷ [])))) ≡ false
unfolding utf8_lossy utf8_valid_len utf8_error_len is_utf8 chars lib.Utf8.encode digits
no_app = refl

first_of_two : updates_in (files (in_mail (with_files (codes "a" ∷ codes "status-update.json" ∷ codes "status-update.json" ∷ [])))) ≡ result_ok (updates (codes "1"))
unfolding utf8_lossy utf8_valid_len utf8_error_len is_utf8 chars lib.Utf8.encode digits
first_of_two = refl

in_capitals : updates_in (files (in_mail (with_files (codes "Status-Update.json" ∷ [])))) ≡ None
unfolding utf8_lossy utf8_valid_len utf8_error_len is_utf8 chars lib.Utf8.encode digits
in_capitals = refl

-- a name and a content
pub record Content : Type 0 where
  pub name : List ℕ
  pub bytes : List ℕ

abbrev content : List ℕ → List ℕ → Content
content name bytes = record { name = name; bytes = bytes }

-- another file of that name stays
others : map (λ f. content f.node.name f.content) (other_files (files (in_mail (with_files (codes "a" ∷ codes "status-update.json" ∷ codes "status-update.json" ∷ [])))))
    ≡ content (codes "a") (codes "0") ∷ content (codes "status-update.json") (codes "2") ∷ []
unfolding utf8_lossy utf8_valid_len utf8_error_len is_utf8 chars lib.Utf8.encode digits
others = refl
