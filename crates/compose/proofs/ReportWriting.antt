-- What the writers of a receipt put is the report and its notification.
use Rattle.std.proofs.Common.{◌≡◌, ℕ, List, ◌∷◌, ◌++◌, ap, ◌∙◌, append_assoc}
use Rattle.std.specs.Prelude.{codes}
use Rattle.compose.specs.Intended.{notification}
use Rattle.compose.specs.Mails.{report}
use Rattle.compose.proofs.CutBack.{closing}
use Rattle.compose.proofs.Reports.{front_line, note_front}

five : (old a b c d e : List ℕ) → ((((old ++ a) ++ b) ++ c) ++ d) ++ e ≡ old ++ (a ++ (b ++ (c ++ (d ++ e))))
five old a b c d e = simp append_assoc

put_five : (old a b c d e one two three four all : List ℕ) → one ≡ old ++ a → two ≡ one ++ b → three ≡ two ++ c → four ≡ three ++ d → all ≡ four ++ e
    → all ≡ old ++ (a ++ (b ++ (c ++ (d ++ e))))
put_five old a b c d e one two three four all is1 is2 is3 is4 is =
    is ∙ ap (λ (xs : List ℕ). xs ++ e) (is4 ∙ ap (λ (xs : List ℕ). xs ++ d) (is3 ∙ ap (λ (xs : List ℕ). xs ++ c) (is2 ∙ ap (λ (xs : List ℕ). xs ++ b) is1)))
    ∙ five old a b c d e

pub note_put : (old from id one two three four all : List ℕ) → one ≡ old ++ codes "Final-Recipient: rfc822;" → two ≡ one ++ from → three ≡ two ++ codes "\nOriginal-Message-ID: <"
    → four ≡ three ++ id → all ≡ four ++ codes ">\nDisposition: manual-action/MDN-sent-automatically; displayed" → all ≡ old ++ notification from id
note_put old from id one two three four all is1 is2 is3 is4 is =
    put_five old (codes "Final-Recipient: rfc822;") from (codes "\nOriginal-Message-ID: <") id (codes ">\nDisposition: manual-action/MDN-sent-automatically; displayed")
    one two three four all is1 is2 is3 is4 is

abbrev opening_text : List ℕ
opening_text = codes "--=_chats\n" ++ front_line

abbrev opening_note : List ℕ
opening_note = codes "--=_chats\n" ++ note_front

pub report_put : (old text note one two three four all : List ℕ) → one ≡ old ++ opening_text → two ≡ one ++ text → three ≡ two ++ opening_note → four ≡ three ++ note
    → all ≡ four ++ (10 ∷ closing) → all ≡ old ++ report text note
report_put old text note one two three four all is1 is2 is3 is4 is =
    put_five old opening_text text opening_note note (10 ∷ closing) one two three four all is1 is2 is3 is4 is
