-- The cards of the worked mails: each mail as it is sent, read by the definitions, gives the card that was written by
-- hand from the rules.
use Rattle.std.proofs.Common.{◌≡◌, ℕ, List, [], ◌∷◌, ◌++◌, codes, refl}
use Rattle.std.specs.Prelude.{⊤, Ok, Err, map}
use Rattle.std.specs.List.{concat}
use Rattle.std.specs.Str.{is_utf8, chars}
use Rattle.std.specs.Str.Lossy.{utf8_lossy, utf8_valid_len, utf8_error_len}
use Rattle.std.specs.Fmt.{digits}
use Rattle.jiff_core.specs.Calendar.{days_from_civil, day_count, days_of_years, days_of_months}
use Rattle.serde_json.proofs.OnLiterals.{serde_json_on_literals}
use Rattle.card_type.proofs.WorkedCards as cards
use Rattle.mail_date.specs.Moment.{moment}
use Rattle.chat_card.specs.Cards.{card_of}
use Rattle.chat_card.specs.Texts.{edit_mark}
use Rattle.chat_card.specs.declared.fault.CardFault.TheVariants.{NoFields, NoFrom}

unfoldable on_mails : ⊤
unfolding moment days_from_civil day_count days_of_years days_of_months serde_json_on_literals utf8_lossy utf8_valid_len utf8_error_len is_utf8 chars lib.Utf8.encode digits
on_mails = tt

-- lines, each ended by LF
abbrev lines : List (List ℕ) → List ℕ
lines ls = concat (map (λ l. l ++ codes "\n") ls)

-- a mail of a sender, to some people, at a time of a day, with an id, then further fields, an empty line and a body
abbrev sent : (from to date id : List ℕ) → (fields body : List (List ℕ)) → List ℕ
sent from to date id fields body =
    lines ((codes "From: " ++ from) ∷ (codes "To: " ++ to) ∷ (codes "Date: " ++ date) ∷ (codes "Message-ID: <" ++ id ++ codes ">") ∷ fields
    ++ [] ∷ body)

abbrev may_1 : List ℕ → List ℕ
may_1 time = codes "Wed, 01 May 2024 " ++ time ++ codes " +0000"

abbrev may_2 : List ℕ → List ℕ
may_2 time = codes "Thu, 02 May 2024 " ++ time ++ codes " +0000"

abbrev version : List ℕ
version = codes "Chat-Version: 1.0"

-- ---- a chat with Bob

plain_mail : card_of 1 (sent (codes "Bob <bob@x.org>") (codes "me@x.org") (may_1 (codes "10:00:00")) (codes "m1@x.org") (version ∷ []) (codes "Hi" ∷ [])) ≡ Ok cards.M1
unfolding on_mails
plain_mail = refl

second_copy : card_of 2 (sent (codes "Bob <bob@x.org>") (codes "me@x.org") (may_1 (codes "09:00:00")) (codes "m1@x.org") (version ∷ []) (codes "Hi there" ∷ [])) ≡ Ok cards.M2
unfolding on_mails
second_copy = refl

edit_with_mark : card_of 1 (sent (codes "Bob <bob@x.org>") (codes "me@x.org") (may_1 (codes "10:05:00")) (codes "e1@x.org") (version ∷ codes "Chat-Edit: <m1@x.org>" ∷ codes "Content-Type: text/plain; charset=utf-8" ∷ []) ((edit_mark ++ codes "Hello") ∷ [])) ≡ Ok cards.E1
unfolding on_mails
edit_with_mark = refl

second_edit : card_of 1 (sent (codes "Bob <bob@x.org>") (codes "me@x.org") (may_1 (codes "10:03:00")) (codes "e2@x.org") (version ∷ codes "Chat-Edit: <m1@x.org>" ∷ codes "Content-Type: text/plain; charset=utf-8" ∷ []) ((edit_mark ++ codes "Hey") ∷ [])) ≡ Ok cards.E2
unfolding on_mails
second_edit = refl

edit_by_stranger : card_of 1 (sent (codes "eve@x.org") (codes "me@x.org") (may_1 (codes "10:06:00")) (codes "x1@x.org") (version ∷ codes "Chat-Edit: <m1@x.org>" ∷ []) (codes "No" ∷ [])) ≡ Ok cards.X1
unfolding on_mails
edit_by_stranger = refl

delete_by_stranger : card_of 1 (sent (codes "eve@x.org") (codes "me@x.org") (may_1 (codes "10:06:00")) (codes "x2@x.org") (version ∷ codes "Chat-Delete: <m1@x.org>" ∷ []) (codes "No" ∷ [])) ≡ Ok cards.X2
unfolding on_mails
delete_by_stranger = refl

with_timer : card_of 1 (sent (codes "bob@x.org") (codes "me@x.org") (may_1 (codes "10:00:00")) (codes "t1@x.org") (version ∷ codes "Ephemeral-Timer: 60" ∷ []) (codes "Secret" ∷ [])) ≡ Ok cards.T1
unfolding on_mails
with_timer = refl

sent_by_oneself : card_of 1 (sent (codes "me@x.org") (codes "bob@x.org") (may_1 (codes "10:00:00")) (codes "o1@x.org") (version ∷ codes "Chat-Disposition-Notification-To: me@x.org" ∷ []) (codes "Dinner?" ∷ [])) ≡ Ok cards.O1
unfolding on_mails
sent_by_oneself = refl

-- ---- reactions to a mail of Bob

abbrev reaction : (time id body : List ℕ) → List ℕ
reaction time id body =
    sent (codes "me@x.org") (codes "bob@x.org") (may_1 time) id
    (codes "In-Reply-To: <m1@x.org>" ∷ codes "Content-Type: text/plain; charset=utf-8" ∷ codes "Content-Disposition: reaction" ∷ []) (body ∷ [])

with_reaction : card_of 1 (reaction (codes "10:10:00") (codes "k1@x.org") cards.thumb) ≡ Ok cards.K1
unfolding on_mails
with_reaction = refl

with_empty_reaction : card_of 1 (reaction (codes "10:12:00") (codes "k2@x.org") []) ≡ Ok cards.K2
unfolding on_mails
with_empty_reaction = refl

-- ---- a group

group_mail : card_of 1 (sent (codes "ann@x.org") (codes "me@x.org, bob@x.org") (may_1 (codes "09:00:00")) (codes "g1@x.org") (version ∷ codes "Chat-Group-ID: abcdefghijk" ∷ codes "Chat-Group-Name: Trip" ∷ []) (codes "Welcome" ∷ [])) ≡ Ok cards.G1
unfolding on_mails
group_mail = refl

with_addition : card_of 1 (sent (codes "ann@x.org") (codes "me@x.org, bob@x.org, cid@x.org") (may_1 (codes "09:10:00")) (codes "g2@x.org") (version ∷ codes "Chat-Group-ID: abcdefghijk" ∷ codes "Chat-Group-Name: Trip" ∷ codes "Chat-Group-Member-Added: cid@x.org" ∷ []) (codes "Cid is here" ∷ [])) ≡ Ok cards.G2
unfolding on_mails
with_addition = refl

with_removal : card_of 1 (sent (codes "ann@x.org") (codes "me@x.org, bob@x.org, cid@x.org") (may_1 (codes "09:20:00")) (codes "g3@x.org") (version ∷ codes "Chat-Group-ID: abcdefghijk" ∷ codes "Chat-Group-Name: Trip" ∷ codes "Chat-Group-Member-Removed: bob@x.org" ∷ []) (codes "Bob left" ∷ [])) ≡ Ok cards.G3
unfolding on_mails
with_removal = refl

with_new_name : card_of 1 (sent (codes "bob@x.org") (codes "me@x.org, ann@x.org") (may_1 (codes "09:25:00")) (codes "g4@x.org") (version ∷ codes "Chat-Group-ID: abcdefghijk" ∷ codes "Chat-Group-Name: Bobs" ∷ codes "Chat-Group-Name-Changed: Trip" ∷ []) (codes "Mine" ∷ [])) ≡ Ok cards.G4
unfolding on_mails
with_new_name = refl

earlier_group_mail : card_of 1 (sent (codes "bob@x.org") (codes "me@x.org, dan@x.org") (may_1 (codes "08:50:00")) (codes "g0@x.org") (version ∷ codes "Chat-Group-ID: abcdefghijk" ∷ codes "Chat-Group-Name: Old trip" ∷ []) (codes "First" ∷ [])) ≡ Ok cards.G0
unfolding on_mails
earlier_group_mail = refl

-- ---- mails of other programs that answer in it

reply : card_of 1 (sent (codes "bob@x.org") (codes "me@x.org, ann@x.org") (may_1 (codes "09:30:00")) (codes "r1@x.org") (codes "In-Reply-To: <g1@x.org>" ∷ codes "Subject: Re: Trip" ∷ []) (codes "Count me in" ∷ [])) ≡ Ok cards.R1
unfolding on_mails
reply = refl

reply_without_subject : card_of 1 (sent (codes "ann@x.org") (codes "me@x.org, bob@x.org") (may_1 (codes "09:40:00")) (codes "r2@x.org") (codes "In-Reply-To: <r1@x.org>" ∷ []) (codes "Good" ∷ [])) ≡ Ok cards.R2
unfolding on_mails
reply_without_subject = refl

reply_to_more : card_of 1 (sent (codes "bob@x.org") (codes "me@x.org, ann@x.org, zoe@x.org") (may_1 (codes "09:50:00")) (codes "r3@x.org") (codes "In-Reply-To: <g1@x.org>" ∷ codes "Subject: Re: Trip" ∷ []) (codes "Me too" ∷ [])) ≡ Ok cards.R3
unfolding on_mails
reply_to_more = refl

-- ---- receipts

abbrev receipt : List ℕ → List ℕ → List ℕ
receipt time id =
    sent (codes "bob@x.org") (codes "me@x.org") (may_1 time) id
    (codes "Content-Type: multipart/report;" ∷ codes " report-type=disposition-notification; boundary=b" ∷ [])
    (codes "--b" ∷ codes "Content-Type: text/plain" ∷ [] ∷ codes "Read." ∷ codes "--b" ∷ codes "Content-Type: message/disposition-notification" ∷ []
    ∷ codes "Original-Message-ID: <o1@x.org>" ∷ codes "Disposition: manual-action/MDN-sent-automatically; displayed" ∷ codes "--b--" ∷ [])

receipt_of_a_mail : card_of 1 (receipt (codes "10:09:00") (codes "n1@x.org")) ≡ Ok cards.N1
unfolding on_mails
receipt_of_a_mail = refl

earlier_receipt : card_of 1 (receipt (codes "10:04:00") (codes "n2@x.org")) ≡ Ok cards.N2
unfolding on_mails
earlier_receipt = refl

-- ---- an app, and its updates

-- two parts: a text, and a file after these fields
abbrev with_file : (text : List ℕ) → (file : List (List ℕ)) → List (List ℕ)
with_file text file = codes "--d" ∷ codes "Content-Type: text/plain" ∷ [] ∷ text ∷ codes "--d" ∷ file ++ codes "--d--" ∷ []

abbrev mixed : List ℕ
mixed = codes "Content-Type: multipart/mixed; boundary=d"

abbrev chess : List (List ℕ)
chess =
    codes "Content-Type: application/webxdc+zip" ∷ codes "Content-Disposition: attachment; filename=\"chess.xdc\""
    ∷ codes "Content-Transfer-Encoding: base64" ∷ [] ∷ codes "UEsDBA==" ∷ []

abbrev update : (time id content : List ℕ) → List ℕ
update time id content =
    sent (codes "bob@x.org") (codes "me@x.org") (may_1 time) id (version ∷ codes "In-Reply-To: <a1@x.org>" ∷ mixed ∷ [])
    (with_file (codes "Update")
    (codes "Content-Type: application/json" ∷ codes "Content-Disposition: attachment; filename=\"status-update.json\"" ∷ [] ∷ content ∷ []))

app : card_of 1 (sent (codes "bob@x.org") (codes "me@x.org") (may_1 (codes "10:50:00")) (codes "a1@x.org") (version ∷ mixed ∷ []) (with_file (codes "Chess?") chess)) ≡ Ok cards.A1
unfolding on_mails
app = refl

first_update : card_of 1 (update (codes "11:00:00") (codes "u1@x.org") (codes "{\"updates\":[{\"payload\":{\"move\":1},\"info\":\"e4\"}]}")) ≡ Ok cards.U1
unfolding on_mails
first_update = refl

second_update : card_of 1 (update (codes "11:10:00") (codes "u2@x.org") (codes "{\"updates\":[{\"payload\":{\"move\":2}}]}")) ≡ Ok cards.U2
unfolding on_mails
second_update = refl

third_update : card_of 1 (update (codes "11:20:00") (codes "u3@x.org") (codes "{\"updates\":[{\"payload\":{\"move\":3},\"info\":\"Nf3\"}]}")) ≡ Ok cards.U3
unfolding on_mails
third_update = refl

app_in_a_group : card_of 1 (sent (codes "Ann <ann@x.org>") (codes "me@x.org, bob@x.org") (may_2 (codes "10:00:00")) (codes "g5@x.org") (version ∷ codes "Chat-Group-ID: abcdefghijk" ∷ codes "Chat-Group-Name: Trip" ∷ mixed ∷ []) (with_file (codes "A game") chess)) ≡ Ok cards.G5
unfolding on_mails
app_in_a_group = refl

-- ---- mails that lack a field, and those that have no card

no_from : card_of 1 (lines (codes "To: me@x.org" ∷ codes "Date: Wed, 01 May 2024 10:00:00 +0000" ∷ codes "Message-ID: <m1@x.org>" ∷ version ∷ [] ∷ codes "Hi" ∷ []))
    ≡ Err NoFrom
unfolding on_mails
no_from = refl

no_id : card_of 2 (lines (codes "From: bob@x.org" ∷ codes "To: me@x.org" ∷ codes "Date: Wed, 01 May 2030 10:00:00 +0000" ∷ version ∷ [] ∷ codes "Late" ∷ []))
    ≡ Ok cards.F2
unfolding on_mails
no_id = refl

no_fields : card_of 4 (codes "\nx") ≡ Err NoFields
no_fields = refl

nobody : card_of 4 (codes "To: a@b\n\n") ≡ Err NoFrom
unfolding on_mails
nobody = refl

-- ---- a thread of plain mails, and an encrypted mail

abbrev alternatives : (plain html : List ℕ) → List (List ℕ) → List (List ℕ)
alternatives plain html charset =
    codes "--i" ∷ (codes "Content-Type: text/plain" ++ concat charset) ∷ [] ∷ plain ∷ codes "--i"
    ∷ (codes "Content-Type: text/html" ++ concat charset) ∷ [] ∷ html ∷ codes "--i--" ∷ []

text_and_file : card_of 1 (sent (codes "Ann <ann@x.org>") (codes "me@x.org, Bob <bob@x.org>") (may_2 (codes "08:00:00")) (codes "h1@x.org") (codes "Subject: Plans" ∷ codes "MIME-Version: 1.0" ∷ codes "Content-Type: multipart/mixed; boundary=\"o\"" ∷ []) (codes "--o" ∷ codes "Content-Type: multipart/alternative; boundary=\"i\"" ∷ [] ∷ alternatives (codes "See the file.") (codes "<p>See the file.</p>") (codes "; charset=utf-8" ∷ []) ++ codes "--o" ∷ codes "Content-Type: application/pdf" ∷ codes "Content-Disposition: attachment; filename=\"plan.pdf\"" ∷ codes "Content-Transfer-Encoding: base64" ∷ [] ∷ codes "JVBERi0=" ∷ codes "--o--" ∷ [])) ≡ Ok cards.H1
unfolding on_mails
text_and_file = refl

two_alternatives : card_of 1 (sent (codes "Bob <bob@x.org>") (codes "ann@x.org, me@x.org") (may_2 (codes "08:30:00")) (codes "h2@x.org") (codes "In-Reply-To: <h1@x.org>" ∷ codes "References: <h1@x.org>" ∷ codes "Subject: Re: Plans" ∷ codes "Content-Type: multipart/alternative; boundary=\"i\"" ∷ []) (alternatives (codes "Fine.") (codes "<p>Fine.</p>") [])) ≡ Ok cards.H2
unfolding on_mails
two_alternatives = refl

with_cc : card_of 1 (
    lines (
    codes "From: me@x.org" ∷ codes "To: ann@x.org" ∷ codes "Cc: bob@x.org" ∷ codes "Date: Thu, 02 May 2024 09:00:00 +0000" ∷ codes "Message-ID: <h3@x.org>"
    ∷ codes "In-Reply-To: <h2@x.org>" ∷ codes "References: <h1@x.org> <h2@x.org>" ∷ codes "Subject: Re: Plans" ∷ [] ∷ codes "Agreed." ∷ []))
    ≡ Ok cards.H3
unfolding on_mails
with_cc = refl

encrypted : card_of 1 (sent (codes "Bob <bob@x.org>") (codes "me@x.org") (may_2 (codes "11:00:00")) (codes "c1@x.org") (codes "Subject: ..." ∷ codes "Content-Type: multipart/encrypted; boundary=\"e\"" ∷ []) (codes "--e" ∷ codes "Content-Type: application/pgp-encrypted" ∷ [] ∷ codes "Version: 1" ∷ codes "--e--" ∷ [])) ≡ Ok cards.C1
unfolding on_mails
encrypted = refl
