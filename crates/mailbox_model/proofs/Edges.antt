-- Worked edges of the rules, each of them in a mailbox of its own.
use Rattle.std.proofs.Common.{◌≡◌, refl, false, true, Some, None, [], ◌∷◌, ◌++◌}
use Rattle.std.specs.Prelude.{codes, replicate}
use Rattle.std.specs.Fmt.{digits}
use Rattle.std.specs.Str.{chars}
use lib.Utf8.{encode}
use Rattle.card_type.specs.declared.card.Card.{Card}
use Rattle.card_type.specs.declared.card.Update.{Update}
use Rattle.card_type.specs.declared.card.Payload.TheVariants.{Absent, Hidden}
use Rattle.card_type.specs.declared.key.ChatKey.TheVariants.{SelfChat, Single, Group, Thread}
use Rattle.mailbox_model.specs.declared.change.Change.TheVariants.{Arrive, ArriveFault, At}
use Rattle.mailbox_model.specs.declared.change.Fault.TheVariants.{NoFields, NoFrom, CardTooLong, TooLong}
use Rattle.mailbox_model.specs.Times.{time_text, civil_date, span_and_rest}
use Rattle.mailbox_model.specs.Answers.{answer}
use Rattle.mailbox_model.specs.Answers.Question.{AllChats, OneChat, AllContacts, AllUpdates}
use Rattle.card_type.proofs.WorkedCards.{me, at, bob, ann, cid, trip, M1, E1, O1, N1, N2, G1, G2, G4, R1, A1, U1}
use Rattle.mailbox_model.proofs.Worked.{box, noon}

-- an update that is not shown, and one without a payload
abbrev hidden : Update
hidden = record { payload = Hidden; info = None; document = Some (codes "Plan"); summary = Some (codes "Done") }

abbrev silent : Update
silent = record { payload = Absent; info = Some (codes "e4"); document = None; summary = None }

-- an answer to a mail of Bob, which refers to one of the group
abbrev R4 : Card
R4 = record R1 { date = Some (at 10 30); replies = codes "m1@x.org" ∷ []; references = codes "g1@x.org" ∷ [] }

-- a mail of another group
abbrev K1 : Card
K1 = record G1 { id = codes "k1@x.org"; group = Some (codes "kkkkkkkkkkk"); group_name = codes "Other" }

-- a mail that refers to both groups, and to mails that are not there
abbrev R5 : Card
R5 = record R1 { replies = []; references = codes "k1@x.org" ∷ codes "gone@x.org" ∷ codes "g1@x.org" ∷ codes "away@x.org" ∷ [] }

-- receipts of Bob and of Ann for a mail of the group
abbrev N3 : Card
N3 = record N1 { receipt = Some (codes "g1@x.org") }

abbrev N4 : Card
N4 = record N2 { from = ann; receipt = Some (codes "g1@x.org") }

-- mails of Bob that are no chat mail, under another name, and without a name
abbrev P1 : Card
P1 = record M1 { id = codes "m3@x.org"; date = Some (at 11 0); chat = false }

abbrev P2 : Card
P2 = record M1 { id = codes "m3@x.org"; from_name = codes "Robert"; date = Some (at 10 1) }

abbrev P3 : Card
P3 = record M1 { id = codes "m4@x.org"; from_name = []; date = Some (at 10 2); cc = ann ∷ [] }

-- a mail of Ann, and one to Cid that has expired
abbrev Q1 : Card
Q1 = record M1 { id = codes "m3@x.org"; from = ann; from_name = codes "Ann" }

abbrev Q2 : Card
Q2 = record O1 { id = codes "o2@x.org"; to = cid ∷ []; timer = 1; date = Some (at 11 0) }

-- ---- chats

-- no others but oneself
with_oneself : answer (box (noon ∷ Arrive (record O1 { to = me ∷ [] }) ∷ [])) (OneChat SelfChat)
    ≡ Some (
    codes "chat self\n"
    ++ codes "name self\n"
    ++ codes "members me@x.org\n"
    ++ codes "timer 0\n"
    ++ codes "#1 2024-05-01 10:00 me@x.org out: Dinner?\n"
    )
unfolding time_text civil_date span_and_rest digits chars encode
with_oneself = refl

-- two others, and nothing that is answered: a thread of its own, with its key as name
copies_count : answer (box (noon ∷ Arrive (record M1 { chat = false; cc = ann ∷ me ∷ bob ∷ [] }) ∷ [])) AllChats
    ≡ Some (codes "thread:m1@x.org | thread:m1@x.org | fresh 1 | 2024-05-01 10:00 | Hi\n")
unfolding time_text civil_date span_and_rest digits chars encode
copies_count = refl

-- the parent is in a chat with one other, which hands nothing on, and no other candidate is tried
parent_in_single : answer (box (noon ∷ Arrive M1 ∷ Arrive G1 ∷ Arrive R4 ∷ [])) (OneChat (Thread (codes "g1@x.org")))
    ≡ Some (
    codes "chat thread:g1@x.org\n"
    ++ codes "name Re: Trip\n"
    ++ codes "members bob@x.org, me@x.org, ann@x.org\n"
    ++ codes "timer 0\n"
    ++ codes "#3 2024-05-01 10:30 bob@x.org new: [Re: Trip] Count me in\n"
    )
unfolding time_text civil_date span_and_rest digits chars encode
parent_in_single = refl

-- the last reference that is there is the parent
last_reference_first : answer (box (noon ∷ Arrive G1 ∷ Arrive K1 ∷ Arrive R5 ∷ [])) AllChats
    ≡ Some (
    codes "group:abcdefghijk | Trip | fresh 2 | 2024-05-01 09:30 | [Re: Trip] Count me in\n"
    ++ codes "group:kkkkkkkkkkk | Other | fresh 1 | 2024-05-01 09:00 | Welcome\n"
    )
unfolding time_text civil_date span_and_rest digits chars encode
last_reference_first = refl

-- no parent is later in mail order than its child
later_parent : answer (box (noon ∷ Arrive R1 ∷ Arrive (record G1 { date = Some (at 9 31) }) ∷ [])) AllChats
    ≡ Some (
    codes "group:abcdefghijk | Trip | fresh 1 | 2024-05-01 09:31 | Welcome\n"
    ++ codes "thread:g1@x.org | Re: Trip | fresh 1 | 2024-05-01 09:30 | [Re: Trip] Count me in\n"
    )
unfolding time_text civil_date span_and_rest digits chars encode
later_parent = refl

-- of one id only the first is present, whatever its kind
receipt_hides : answer (box (noon ∷ Arrive M1 ∷ Arrive (record N1 { id = codes "m1@x.org"; date = Some (at 9 0) }) ∷ [])) AllChats
    ≡ Some ([])
unfolding time_text civil_date span_and_rest digits chars encode
receipt_hides = refl

-- ---- rows

-- what is sent expires by its date
sent_stays_a_minute : answer (box (At 1714557659 ∷ Arrive (record O1 { timer = 60 }) ∷ [])) AllChats
    ≡ Some (codes "single:bob@x.org | bob@x.org | fresh 0 | 2024-05-01 10:00 | Dinner?\n")
unfolding time_text civil_date span_and_rest digits chars encode
sent_stays_a_minute = refl

sent_expires : answer (box (At 1714557660 ∷ Arrive (record O1 { timer = 60 }) ∷ [])) AllChats
    ≡ Some (codes "single:bob@x.org | bob@x.org | fresh 0 | - | -\n")
unfolding time_text civil_date span_and_rest digits chars encode
sent_expires = refl

cut_text : answer (box (noon ∷ Arrive (record M1 { cut = true }) ∷ [])) (OneChat (Single bob))
    ≡ Some (
    codes "chat single:bob@x.org\n"
    ++ codes "name Bob\n"
    ++ codes "members me@x.org, bob@x.org\n"
    ++ codes "timer 0\n"
    ++ codes "#1 2024-05-01 10:00 bob@x.org new: Hi [cut]\n"
    )
unfolding time_text civil_date span_and_rest digits chars encode
cut_text = refl

cut_is_of_the_edit : answer (box (noon ∷ Arrive (record M1 { cut = true }) ∷ Arrive E1 ∷ [])) (OneChat (Single bob))
    ≡ Some (
    codes "chat single:bob@x.org\n"
    ++ codes "name Bob\n"
    ++ codes "members me@x.org, bob@x.org\n"
    ++ codes "timer 0\n"
    ++ codes "#1 2024-05-01 10:00 bob@x.org new: Hello [edited]\n"
    )
unfolding time_text civil_date span_and_rest digits chars encode
cut_is_of_the_edit = refl

no_text : answer (box (noon ∷ Arrive (record M1 { text = [] }) ∷ [])) (OneChat (Single bob))
    ≡ Some (
    codes "chat single:bob@x.org\n"
    ++ codes "name Bob\n"
    ++ codes "members me@x.org, bob@x.org\n"
    ++ codes "timer 0\n"
    ++ codes "#1 2024-05-01 10:00 bob@x.org new: (no text)\n"
    )
unfolding time_text civil_date span_and_rest digits chars encode
no_text = refl

subject_alone : answer (box (noon ∷ Arrive (record M1 { chat = false; text = []; subject = codes "Hello" }) ∷ [])) (OneChat (Single bob))
    ≡ Some (
    codes "chat single:bob@x.org\n"
    ++ codes "name Bob\n"
    ++ codes "members me@x.org, bob@x.org\n"
    ++ codes "timer 0\n"
    ++ codes "#1 2024-05-01 10:00 bob@x.org new: [Hello]\n"
    )
unfolding time_text civil_date span_and_rest digits chars encode
subject_alone = refl

subject_of_a_chat_mail : answer (box (noon ∷ Arrive (record M1 { subject = codes "Hello" }) ∷ [])) (OneChat (Single bob))
    ≡ Some (
    codes "chat single:bob@x.org\n"
    ++ codes "name Bob\n"
    ++ codes "members me@x.org, bob@x.org\n"
    ++ codes "timer 0\n"
    ++ codes "#1 2024-05-01 10:00 bob@x.org new: Hi\n"
    )
unfolding time_text civil_date span_and_rest digits chars encode
subject_of_a_chat_mail = refl

two_readers : answer (box (noon ∷ Arrive (record G1 { from = me; to = ann ∷ bob ∷ [] }) ∷ Arrive N3 ∷ Arrive N4 ∷ [])) (OneChat (Group trip))
    ≡ Some (
    codes "chat group:abcdefghijk\n"
    ++ codes "name Trip\n"
    ++ codes "members me@x.org, ann@x.org, bob@x.org\n"
    ++ codes "timer 0\n"
    ++ codes "#1 2024-05-01 09:00 me@x.org out: Welcome\n"
    ++ codes "  read by ann@x.org 2024-05-01 10:04\n"
    ++ codes "  read by bob@x.org 2024-05-01 10:09\n"
    )
unfolding time_text civil_date span_and_rest digits chars encode
two_readers = refl

parts_of_updates : answer (box (noon ∷ Arrive A1 ∷ Arrive (record U1 { updates = hidden ∷ silent ∷ [] }) ∷ [])) (AllUpdates (codes "a1@x.org"))
    ≡ Some (
    codes "1/2 bob@x.org | payload hidden | document Plan | summary Done\n"
    ++ codes "2/2 bob@x.org | info e4\n"
    )
unfolding time_text civil_date span_and_rest digits chars encode
parts_of_updates = refl

update_by_stranger : answer (box (noon ∷ Arrive A1 ∷ Arrive (record U1 { from = codes "eve@x.org" }) ∷ [])) (AllUpdates (codes "a1@x.org"))
    ≡ Some ([])
unfolding time_text civil_date span_and_rest digits chars encode
update_by_stranger = refl

-- ---- members, names and timers

-- Bob is a member when he renames
member_renames : answer (box (noon ∷ Arrive G1 ∷ Arrive G4 ∷ [])) AllChats
    ≡ Some (codes "group:abcdefghijk | Bobs | fresh 2 | 2024-05-01 09:25 | Mine\n")
unfolding time_text civil_date span_and_rest digits chars encode
member_renames = refl

renamed_to_nothing : answer (box (noon ∷ Arrive G1 ∷ Arrive (record G4 { group_name = [] }) ∷ [])) AllChats
    ≡ Some (codes "group:abcdefghijk | Trip | fresh 2 | 2024-05-01 09:25 | Mine\n")
unfolding time_text civil_date span_and_rest digits chars encode
renamed_to_nothing = refl

group_without_name : answer (box (noon ∷ Arrive (record G1 { group_name = [] }) ∷ [])) AllChats
    ≡ Some (codes "group:abcdefghijk | group:abcdefghijk | fresh 1 | 2024-05-01 09:00 | Welcome\n")
unfolding time_text civil_date span_and_rest digits chars encode
group_without_name = refl

-- each once, with the added one and without the removed one
added_and_removed : answer (box (noon ∷ Arrive (record G1 { to = me ∷ ann ∷ bob ∷ []; added = Some cid; removed = Some bob }) ∷ [])) (OneChat (Group trip))
    ≡ Some (
    codes "chat group:abcdefghijk\n"
    ++ codes "name Trip\n"
    ++ codes "members ann@x.org, me@x.org, cid@x.org\n"
    ++ codes "timer 0\n"
    ++ codes "#1 2024-05-01 09:00 ann@x.org new: Welcome\n"
    )
unfolding time_text civil_date span_and_rest digits chars encode
added_and_removed = refl

stranger_sets_no_timer : answer (box (noon ∷ Arrive G1 ∷ Arrive (record G2 { from = codes "eve@x.org"; timer = 60 }) ∷ [])) (OneChat (Group trip))
    ≡ Some (
    codes "chat group:abcdefghijk\n"
    ++ codes "name Trip\n"
    ++ codes "members ann@x.org, me@x.org, bob@x.org\n"
    ++ codes "timer 0\n"
    ++ codes "#1 2024-05-01 09:00 ann@x.org new: Welcome\n"
    ++ codes "#2 2024-05-01 09:10 eve@x.org new: Cid is here\n"
    )
unfolding time_text civil_date span_and_rest digits chars encode
stranger_sets_no_timer = refl

timer_of_the_last_chat_mail : answer (box (noon ∷ Arrive (record M1 { timer = 60 }) ∷ Arrive P1 ∷ [])) (OneChat (Single bob))
    ≡ Some (
    codes "chat single:bob@x.org\n"
    ++ codes "name Bob\n"
    ++ codes "members me@x.org, bob@x.org\n"
    ++ codes "timer 60\n"
    ++ codes "#1 2024-05-01 10:00 bob@x.org new: Hi\n"
    ++ codes "#2 2024-05-01 11:00 bob@x.org new: Hi\n"
    )
unfolding time_text civil_date span_and_rest digits chars encode
timer_of_the_last_chat_mail = refl

last_name_counts : answer (box (noon ∷ Arrive M1 ∷ Arrive P2 ∷ Arrive P3 ∷ [])) AllContacts
    ≡ Some (
    codes "ann@x.org | ann@x.org\n"
    ++ codes "bob@x.org | Robert\n"
    )
unfolding time_text civil_date span_and_rest digits chars encode
last_name_counts = refl

-- ---- the list

-- of one date by key, and where nothing is shown last
ties_by_key : answer (box (noon ∷ Arrive M1 ∷ Arrive Q1 ∷ Arrive Q2 ∷ [])) AllChats
    ≡ Some (
    codes "single:ann@x.org | Ann | fresh 1 | 2024-05-01 10:00 | Hi\n"
    ++ codes "single:bob@x.org | Bob | fresh 1 | 2024-05-01 10:00 | Hi\n"
    ++ codes "single:cid@x.org | cid@x.org | fresh 0 | - | -\n"
    )
unfolding time_text civil_date span_and_rest digits chars encode
ties_by_key = refl

every_fault : answer (box (noon ∷ ArriveFault NoFields ∷ ArriveFault NoFrom ∷ ArriveFault CardTooLong ∷ ArriveFault TooLong ∷ [])) AllChats
    ≡ Some (
    codes "fault 1 no fields\n"
    ++ codes "fault 2 no From\n"
    ++ codes "fault 3 card too long\n"
    ++ codes "fault 4 mail too long\n"
    )
unfolding time_text civil_date span_and_rest digits chars encode
every_fault = refl

-- bytes below 32, and 127, print as spaces
control_characters : answer (box (noon ∷ Arrive (record M1 { from_name = 66 ∷ 9 ∷ 127 ∷ 31 ∷ 195 ∷ 169 ∷ [] }) ∷ [])) AllContacts
    ≡ Some (codes "bob@x.org | B   " ++ 195 ∷ 169 ∷ 10 ∷ [])
unfolding time_text civil_date span_and_rest digits chars encode
control_characters = refl

-- 60 characters, of which the last has two bytes
sixty_characters : answer (box (noon ∷ Arrive (record M1 { text = replicate 59 97 ++ 195 ∷ 169 ∷ 97 ∷ [] }) ∷ [])) AllChats
    ≡ Some (codes "single:bob@x.org | Bob | fresh 1 | 2024-05-01 10:00 | " ++ replicate 59 97 ++ 195 ∷ 169 ∷ 10 ∷ [])
unfolding time_text civil_date span_and_rest digits chars encode
sixty_characters = refl

-- ---- times
first_moment : time_text 0 ≡ codes "1970-01-01 00:00"
unfolding time_text civil_date span_and_rest
first_moment = refl

leap_day : time_text 951825600 ≡ codes "2000-02-29 12:00"
unfolding time_text civil_date span_and_rest
leap_day = refl

end_of_february : time_text 1677628799 ≡ codes "2023-02-28 23:59"
unfolding time_text civil_date span_and_rest
end_of_february = refl

no_leap_day : time_text 4107542400 ≡ codes "2100-03-01 00:00"
unfolding time_text civil_date span_and_rest
no_leap_day = refl

end_of_a_leap_year : time_text 1735689599 ≡ codes "2024-12-31 23:59"
unfolding time_text civil_date span_and_rest
end_of_a_leap_year = refl
