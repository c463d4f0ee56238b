-- Worked mailboxes: each law where it holds, and where one of its premises is missing and it does not.
use Rattle.std.proofs.Common.{◌≡◌, refl, ℕ, Some, None, Ok, List, [], ◌∷◌, ◌++◌}
use Rattle.std.specs.Prelude.{codes}
use Rattle.std.specs.Fmt.{digits}
use Rattle.std.specs.Str.{chars}
use lib.Utf8.{encode}
use Rattle.card_type.specs.declared.card.Card.{Card}
use Rattle.card_type.specs.declared.key.ChatKey.TheVariants.{Single, Group}
use Rattle.mailbox_model.specs.declared.change.Change.{Change}
use Rattle.mailbox_model.specs.declared.change.Change.TheVariants.{Arrive, ArriveFault, Expunge, Seen, At}
use Rattle.mailbox_model.specs.declared.change.Fault.TheVariants.{NoFrom}
use Rattle.mailbox_model.specs.Mailbox.{Mailbox, empty_mailbox, after, after_all}
use Rattle.mailbox_model.specs.Times.{time_text, civil_date, span_and_rest}
use Rattle.mailbox_model.specs.Answers.{answer}
use Rattle.mailbox_model.specs.Answers.Question.{AllChats, OneChat, AllUpdates}
use Rattle.card_type.proofs.WorkedCards.{me, at, bob, trip, M1, M2, E1, X1, T1, F2, O1, N1, G1, G5, R1, R2, U1}

abbrev box : List Change → Mailbox
box changes = after_all (empty_mailbox me) changes

-- 2024-05-01 12:00, a minute later, and the day after
abbrev noon : Change
noon = At 1714564800

abbrev minute : Change
minute = At 1714564860

abbrev next_day : Change
next_day = At 1714651200

-- the page of the chat with Bob, with these rows
abbrev with_bob : List ℕ → List ℕ → List ℕ
with_bob name rows =
    codes "chat single:bob@x.org\n" ++ codes "name " ++ name ++ codes "\n" ++ codes "members me@x.org, bob@x.org\n" ++ codes "timer 0\n" ++ rows

-- ---- the order of arrival

-- the answers come first, or last
answers_first : answer (box (noon ∷ Arrive R1 ∷ Arrive R2 ∷ Arrive G1 ∷ [])) (OneChat (Group trip))
    ≡ Some (
    codes "chat group:abcdefghijk\n"
    ++ codes "name Trip\n"
    ++ codes "members ann@x.org, me@x.org, bob@x.org\n"
    ++ codes "timer 0\n"
    ++ codes "#3 2024-05-01 09:00 ann@x.org new: Welcome\n"
    ++ codes "#1 2024-05-01 09:30 bob@x.org new: [Re: Trip] Count me in\n"
    ++ codes "#2 2024-05-01 09:40 ann@x.org new: Good\n"
    )
unfolding time_text civil_date span_and_rest digits chars encode
answers_first = refl

answers_last : answer (box (noon ∷ Arrive G1 ∷ Arrive R1 ∷ Arrive R2 ∷ [])) (OneChat (Group trip))
    ≡ Some (
    codes "chat group:abcdefghijk\n"
    ++ codes "name Trip\n"
    ++ codes "members ann@x.org, me@x.org, bob@x.org\n"
    ++ codes "timer 0\n"
    ++ codes "#1 2024-05-01 09:00 ann@x.org new: Welcome\n"
    ++ codes "#2 2024-05-01 09:30 bob@x.org new: [Re: Trip] Count me in\n"
    ++ codes "#3 2024-05-01 09:40 ann@x.org new: Good\n"
    )
unfolding time_text civil_date span_and_rest digits chars encode
answers_last = refl

-- a date after the arrival counts as the arrival, which then differs
ahead_first : answer (box (noon ∷ Arrive F2 ∷ minute ∷ Arrive M1 ∷ [])) AllChats
    ≡ Some (codes "single:bob@x.org | Bob | fresh 2 | 2024-05-01 12:00 | Late\n")
unfolding time_text civil_date span_and_rest digits chars encode
ahead_first = refl

ahead_last : answer (box (noon ∷ Arrive M1 ∷ minute ∷ Arrive F2 ∷ [])) AllChats
    ≡ Some (codes "single:bob@x.org | Bob | fresh 2 | 2024-05-01 12:01 | Late\n")
unfolding time_text civil_date span_and_rest digits chars encode
ahead_last = refl

-- so does a missing date, where the clock goes on between the arrivals
abbrev Undated : Card
Undated = record M1 { id = codes "d1@x.org"; date = None; text = codes "Now" }

undated_first : answer (box (noon ∷ Arrive Undated ∷ minute ∷ Arrive M1 ∷ [])) AllChats
    ≡ Some (codes "single:bob@x.org | Bob | fresh 2 | 2024-05-01 12:00 | Now\n")
unfolding time_text civil_date span_and_rest digits chars encode
undated_first = refl

undated_last : answer (box (noon ∷ Arrive M1 ∷ minute ∷ Arrive Undated ∷ [])) AllChats
    ≡ Some (codes "single:bob@x.org | Bob | fresh 2 | 2024-05-01 12:01 | Now\n")
unfolding time_text civil_date span_and_rest digits chars encode
undated_last = refl

-- of two cards with one id and one date the first to arrive is present
abbrev Bye : Card
Bye = record M1 { text = codes "Bye" }

hi_first : answer (box (noon ∷ Arrive M1 ∷ Arrive Bye ∷ [])) AllChats
    ≡ Some (codes "single:bob@x.org | Bob | fresh 1 | 2024-05-01 10:00 | Hi\n")
unfolding time_text civil_date span_and_rest digits chars encode
hi_first = refl

bye_first : answer (box (noon ∷ Arrive Bye ∷ Arrive M1 ∷ [])) AllChats
    ≡ Some (codes "single:bob@x.org | Bob | fresh 1 | 2024-05-01 10:00 | Bye\n")
unfolding time_text civil_date span_and_rest digits chars encode
bye_first = refl

-- a timer runs from the moment at which the mail was seen
seen_at_noon : answer (box (noon ∷ Arrive T1 ∷ Seen 1 ∷ minute ∷ [])) AllChats
    ≡ Some (codes "single:bob@x.org | bob@x.org | fresh 0 | - | -\n")
unfolding time_text civil_date span_and_rest digits chars encode
seen_at_noon = refl

seen_later : answer (box (noon ∷ Arrive T1 ∷ At 1714564801 ∷ Seen 1 ∷ minute ∷ [])) AllChats
    ≡ Some (codes "single:bob@x.org | bob@x.org | fresh 0 | 2024-05-01 10:00 | Secret\n")
unfolding time_text civil_date span_and_rest digits chars encode
seen_later = refl

-- and whether it is over depends on the moment
a_minute_before : answer (box (noon ∷ Arrive T1 ∷ Seen 1 ∷ [])) AllChats
    ≡ Some (codes "single:bob@x.org | bob@x.org | fresh 0 | 2024-05-01 10:00 | Secret\n")
unfolding time_text civil_date span_and_rest digits chars encode
a_minute_before = refl

-- and what was never seen stays
never_seen : answer (box (noon ∷ Arrive T1 ∷ minute ∷ [])) AllChats
    ≡ Some (codes "single:bob@x.org | bob@x.org | fresh 1 | 2024-05-01 10:00 | Secret\n")
unfolding time_text civil_date span_and_rest digits chars encode
never_seen = refl

-- and whose mailbox it is
of_bob : answer (after_all (empty_mailbox bob) (noon ∷ Arrive M1 ∷ [])) AllChats
    ≡ Some (codes "single:me@x.org | me@x.org | fresh 0 | 2024-05-01 10:00 | Hi\n")
unfolding time_text civil_date span_and_rest digits chars encode
of_bob = refl

-- the list names a mail that could not be read by its number
fault_first : answer (box (noon ∷ ArriveFault NoFrom ∷ Arrive M1 ∷ [])) AllChats
    ≡ Some (codes "single:bob@x.org | Bob | fresh 1 | 2024-05-01 10:00 | Hi\n" ++ codes "fault 1 no From\n")
unfolding time_text civil_date span_and_rest digits chars encode
fault_first = refl

fault_last : answer (box (noon ∷ Arrive M1 ∷ ArriveFault NoFrom ∷ [])) AllChats
    ≡ Some (codes "single:bob@x.org | Bob | fresh 1 | 2024-05-01 10:00 | Hi\n" ++ codes "fault 2 no From\n")
unfolding time_text civil_date span_and_rest digits chars encode
fault_last = refl

-- ---- copies

comes_again : answer (box (noon ∷ Arrive M1 ∷ minute ∷ Arrive M1 ∷ [])) AllChats
    ≡ Some (codes "single:bob@x.org | Bob | fresh 1 | 2024-05-01 10:00 | Hi\n")
unfolding time_text civil_date span_and_rest digits chars encode
comes_again = refl

-- also where it was hidden
hidden_again : answer (box (noon ∷ Arrive M1 ∷ Arrive M2 ∷ minute ∷ Arrive M1 ∷ [])) AllChats
    ≡ Some (codes "single:bob@x.org | Bob | fresh 1 | 2024-05-01 09:00 | Hi there\n")
unfolding time_text civil_date span_and_rest digits chars encode
hidden_again = refl

-- a copy that is earlier in mail order takes its place
earlier_copy : answer (box (noon ∷ Arrive M1 ∷ Arrive M2 ∷ [])) AllChats
    ≡ Some (codes "single:bob@x.org | Bob | fresh 1 | 2024-05-01 09:00 | Hi there\n")
unfolding time_text civil_date span_and_rest digits chars encode
earlier_copy = refl

-- no mailbox: its mail came after its moment, and so the copy takes its place
abbrev from_ahead : Mailbox
from_ahead =
    record { me = me; now = 1714564800; next_uid = 2; entries = record { uid = 1; arrival = 1714564860; seen = None; read = Ok Undated } ∷ [] }

from_ahead_alone : answer from_ahead AllChats ≡ Some (codes "single:bob@x.org | Bob | fresh 1 | 2024-05-01 12:01 | Now\n")
unfolding time_text civil_date span_and_rest digits chars encode
from_ahead_alone = refl

from_ahead_again : answer (after from_ahead (Arrive Undated)) AllChats
    ≡ Some (codes "single:bob@x.org | Bob | fresh 1 | 2024-05-01 12:00 | Now\n")
unfolding time_text civil_date span_and_rest digits chars encode
from_ahead_again = refl

-- ---- an expunge

expunged : answer (box (noon ∷ Arrive M1 ∷ Arrive M2 ∷ Seen 1 ∷ Expunge 2 ∷ [])) (OneChat (Single bob))
    ≡ Some (with_bob (codes "Bob") (codes "#1 2024-05-01 10:00 bob@x.org seen: Hi\n"))
unfolding time_text civil_date span_and_rest digits chars encode
expunged = refl

never_came : answer (box (noon ∷ Arrive M1 ∷ Seen 1 ∷ [])) (OneChat (Single bob))
    ≡ Some (with_bob (codes "Bob") (codes "#1 2024-05-01 10:00 bob@x.org seen: Hi\n"))
unfolding time_text civil_date span_and_rest digits chars encode
never_came = refl

-- what arrives between has the number after it
arrival_between : answer (box (noon ∷ Arrive R1 ∷ Arrive M1 ∷ Expunge 1 ∷ [])) (OneChat (Single bob))
    ≡ Some (with_bob (codes "Bob") (codes "#2 2024-05-01 10:00 bob@x.org new: Hi\n"))
unfolding time_text civil_date span_and_rest digits chars encode
arrival_between = refl

arrival_alone : answer (box (noon ∷ Arrive M1 ∷ [])) (OneChat (Single bob))
    ≡ Some (with_bob (codes "Bob") (codes "#1 2024-05-01 10:00 bob@x.org new: Hi\n"))
unfolding time_text civil_date span_and_rest digits chars encode
arrival_alone = refl

-- no mailbox: its next uid is taken
abbrev uid_taken : Mailbox
uid_taken =
    record { me = me; now = 1714564800; next_uid = 1; entries = record { uid = 1; arrival = 1714564800; seen = None; read = Ok M1 } ∷ [] }

both_gone : answer (after (after uid_taken (Arrive G1)) (Expunge 1)) AllChats ≡ Some []
both_gone = refl

fault_gone_with_it : answer (after (after uid_taken (ArriveFault NoFrom)) (Expunge 1)) AllChats ≡ Some []
fault_gone_with_it = refl

-- ---- strangers

abbrev eve : List ℕ
eve = codes "eve@x.org"

edited : answer (box (noon ∷ Arrive M1 ∷ Arrive E1 ∷ [])) (OneChat (Single bob))
    ≡ Some (with_bob (codes "Bob") (codes "#1 2024-05-01 10:00 bob@x.org new: Hello [edited]\n"))
unfolding time_text civil_date span_and_rest digits chars encode
edited = refl

not_edited : answer (box (noon ∷ Arrive M1 ∷ Arrive X1 ∷ [])) (OneChat (Single bob))
    ≡ Some (with_bob (codes "Bob") (codes "#1 2024-05-01 10:00 bob@x.org new: Hi\n"))
unfolding time_text civil_date span_and_rest digits chars encode
not_edited = refl

-- a mail of Eve with the id of the edit, and an earlier date, takes the place of the edit
abbrev Taken : Card
Taken = record X1 { id = codes "e1@x.org"; date = Some (at 8 0); edit = None; text = codes "Boo" }

edit_hidden : answer (box (noon ∷ Arrive M1 ∷ Arrive E1 ∷ Arrive Taken ∷ [])) (OneChat (Single bob))
    ≡ Some (with_bob (codes "Bob") (codes "#1 2024-05-01 10:00 bob@x.org new: Hi\n"))
unfolding time_text civil_date span_and_rest digits chars encode
edit_hidden = refl

-- whoever says so is a reader of an own mail
abbrev Eve_read : Card
Eve_read = record N1 { from = eve; id = codes "s2@x.org" }

stranger_reads : answer (box (noon ∷ Arrive O1 ∷ Arrive Eve_read ∷ [])) (OneChat (Single bob))
    ≡ Some (with_bob bob (codes "#1 2024-05-01 10:00 me@x.org out: Dinner?\n" ++ codes "  read by eve@x.org 2024-05-01 10:09\n"))
unfolding time_text civil_date span_and_rest digits chars encode
stranger_reads = refl

-- Bob is in To of Ann's app, and Eve is not
abbrev Move : List ℕ → Card
Move from = record U1 { from = from; date = Some (at 35 0); id = codes "v1@x.org"; replies = codes "g5@x.org" ∷ [] }

member_moves : answer (box (next_day ∷ Arrive G5 ∷ Arrive (Move bob) ∷ [])) (AllUpdates (codes "g5@x.org"))
    ≡ Some (codes "1/1 bob@x.org | payload {\"move\":1} | info e4\n")
unfolding time_text civil_date span_and_rest digits chars encode
member_moves = refl

stranger_moves : answer (box (next_day ∷ Arrive G5 ∷ Arrive (Move eve) ∷ [])) (AllUpdates (codes "g5@x.org")) ≡ Some []
unfolding time_text civil_date span_and_rest digits chars encode
stranger_moves = refl
