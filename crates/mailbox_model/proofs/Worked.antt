-- Worked mailboxes: what is asked of each, and the text that answers it, computed from the definitions.
use Rattle.std.proofs.Common.{◌≡◌, refl, ℕ, true, false, Some, None, List, [], ◌∷◌, ◌++◌}
use Rattle.std.specs.Prelude.{codes, map}
use Rattle.std.specs.Fmt.{digits}
use Rattle.std.specs.Str.{chars}
use lib.Utf8.{encode}
use Rattle.card_type.specs.declared.key.ChatKey.TheVariants.{Single, Group, Thread}
use Rattle.mailbox_model.specs.declared.change.Change.{Change}
use Rattle.mailbox_model.specs.declared.change.Change.TheVariants.{Arrive, ArriveFault, Expunge, Seen, At}
use Rattle.mailbox_model.specs.declared.change.Fault.TheVariants.{NoFrom}
use Rattle.card_type.specs.declared.spot.Spot.{Spot}
use Rattle.mailbox_model.specs.declared.turn.Turn.TheVariants.{Nothing, Add, Remove, Replace, Marked, Moved}
use Rattle.mailbox_model.specs.declared.item.Held.TheVariants as is_held
use Rattle.mailbox_model.specs.Mailbox.{Mailbox, empty_mailbox, after_all, card_at, entry_of, full, item_at}
use Rattle.mailbox_model.specs.Present.{present_cards, spot_of}
use Rattle.mailbox_model.specs.Chats.{cites, moves}
use Rattle.mailbox_model.specs.Rows.{naming}
use Rattle.mailbox_model.specs.States.{chat_cards, fresh_among, last_spot}
use Rattle.mailbox_model.specs.Turns.{turn}
use Rattle.mailbox_model.specs.Times.{time_text, civil_date, span_and_rest}
use Rattle.mailbox_model.specs.Answers.{answer}
use Rattle.mailbox_model.specs.Answers.Question.{AllChats, OneChat, AllContacts, AllUpdates, InfoUpdates}
use Rattle.card_type.proofs.WorkedCards.{me, at, bob, ann, trip, M1, M2, E1, E2, X1, X2, T1, F2, K1, K2, thumb, O1, N1, N2, G0, G1, G2, G3, G4, G5, R1, R2, R3, A1, U1, U2, U3, H1, H2, H3, C1}

abbrev pub box : List Change → Mailbox
box changes = after_all (empty_mailbox me) changes

-- 2024-05-01 12:00
abbrev pub noon : Change
noon = At 1714564800

-- a spot of the id m1@x.org in mail order
abbrev spot : ℕ → ℕ → Spot
spot date uid = record { date = date; id = codes "m1@x.org"; uid = uid }

one_mail : answer (box (noon ∷ Arrive M1 ∷ [])) AllChats
    ≡ Some (codes "single:bob@x.org | Bob | fresh 1 | 2024-05-01 10:00 | Hi\n")
unfolding time_text civil_date span_and_rest digits chars encode
one_mail = refl

no_mail : answer (box (noon ∷ [])) AllChats ≡ Some []
no_mail = refl

-- the parent is not there: both are in a thread that is named by its id
replies_without_parent : answer (box (noon ∷ Arrive R1 ∷ Arrive R2 ∷ [])) AllChats
    ≡ Some (codes "thread:g1@x.org | Re: Trip | fresh 2 | 2024-05-01 09:40 | Good\n")
unfolding time_text civil_date span_and_rest digits chars encode
replies_without_parent = refl

parent_comes_late : answer (box (noon ∷ Arrive R1 ∷ Arrive R2 ∷ Arrive G1 ∷ [])) AllChats
    ≡ Some (codes "group:abcdefghijk | Trip | fresh 3 | 2024-05-01 09:40 | Good\n")
unfolding time_text civil_date span_and_rest digits chars encode
parent_comes_late = refl

parent_is_expunged : answer (box (noon ∷ Arrive R1 ∷ Arrive R2 ∷ Arrive G1 ∷ Expunge 3 ∷ [])) AllChats
    ≡ Some (codes "thread:g1@x.org | Re: Trip | fresh 2 | 2024-05-01 09:40 | Good\n")
unfolding time_text civil_date span_and_rest digits chars encode
parent_is_expunged = refl

-- the last edit in mail order counts, whenever it came
edits_before_original : answer (box (noon ∷ Arrive E1 ∷ At 1714564801 ∷ Arrive M1 ∷ Arrive E2 ∷ [])) (OneChat (Single bob))
    ≡ Some (
    codes "chat single:bob@x.org\n"
    ++ codes "name Bob\n"
    ++ codes "members me@x.org, bob@x.org\n"
    ++ codes "timer 0\n"
    ++ codes "#2 2024-05-01 10:00 bob@x.org new: Hello [edited]\n"
    )
unfolding time_text civil_date span_and_rest digits chars encode
edits_before_original = refl

stranger_edits_and_deletes : answer (box (noon ∷ Arrive M1 ∷ Arrive X1 ∷ Arrive X2 ∷ [])) AllChats
    ≡ Some (codes "single:bob@x.org | Bob | fresh 1 | 2024-05-01 10:00 | Hi\n")
unfolding time_text civil_date span_and_rest digits chars encode
stranger_edits_and_deletes = refl

-- a reaction counts whenever it came
reaction_before_original : answer (box (noon ∷ Arrive K1 ∷ Arrive M1 ∷ [])) (OneChat (Single bob))
    ≡ Some (
    codes "chat single:bob@x.org\n"
    ++ codes "name Bob\n"
    ++ codes "members me@x.org, bob@x.org\n"
    ++ codes "timer 0\n"
    ++ codes "#2 2024-05-01 10:00 bob@x.org new: Hi\n"
    ++ codes "  reaction me@x.org " ++ thumb ++ codes "\n"
    )
unfolding time_text civil_date span_and_rest digits chars encode
reaction_before_original = refl

-- the last one of a sender counts, in mail order
reaction_taken_back : answer (box (noon ∷ Arrive K2 ∷ Arrive K1 ∷ Arrive M1 ∷ [])) (OneChat (Single bob))
    ≡ Some (
    codes "chat single:bob@x.org\n"
    ++ codes "name Bob\n"
    ++ codes "members me@x.org, bob@x.org\n"
    ++ codes "timer 0\n"
    ++ codes "#3 2024-05-01 10:00 bob@x.org new: Hi\n"
    )
unfolding time_text civil_date span_and_rest digits chars encode
reaction_taken_back = refl

reaction_by_stranger : answer (box (noon ∷ Arrive M1 ∷ Arrive (record K1 { from = codes "eve@x.org" }) ∷ [])) (OneChat (Single bob))
    ≡ Some (
    codes "chat single:bob@x.org\n"
    ++ codes "name Bob\n"
    ++ codes "members me@x.org, bob@x.org\n"
    ++ codes "timer 0\n"
    ++ codes "#1 2024-05-01 10:00 bob@x.org new: Hi\n"
    )
unfolding time_text civil_date span_and_rest digits chars encode
reaction_by_stranger = refl

-- once the last one is expunged the one before it counts again
reaction_expunged : answer (box (noon ∷ Arrive M1 ∷ Arrive K1 ∷ Arrive K2 ∷ Expunge 3 ∷ [])) (OneChat (Single bob))
    ≡ Some (
    codes "chat single:bob@x.org\n"
    ++ codes "name Bob\n"
    ++ codes "members me@x.org, bob@x.org\n"
    ++ codes "timer 0\n"
    ++ codes "#1 2024-05-01 10:00 bob@x.org new: Hi\n"
    ++ codes "  reaction me@x.org " ++ thumb ++ codes "\n"
    )
unfolding time_text civil_date span_and_rest digits chars encode
reaction_expunged = refl

-- in the order of those that count
reactions_in_mail_order : answer (box (noon ∷ Arrive M1 ∷ Arrive K1 ∷ Arrive (record K1 { id = codes "k3@x.org"; from = bob; date = Some (at 10 11); reaction = Some (codes "ok") }) ∷ Arrive (record K2 { reaction = Some (codes "no") }) ∷ [])) (OneChat (Single bob))
    ≡ Some (
    codes "chat single:bob@x.org\n"
    ++ codes "name Bob\n"
    ++ codes "members me@x.org, bob@x.org\n"
    ++ codes "timer 0\n"
    ++ codes "#1 2024-05-01 10:00 bob@x.org new: Hi\n"
    ++ codes "  reaction bob@x.org ok\n"
    ++ codes "  reaction me@x.org no\n"
    )
unfolding time_text civil_date span_and_rest digits chars encode
reactions_in_mail_order = refl

members_come_and_go : answer (box (noon ∷ Arrive G1 ∷ Arrive G2 ∷ Arrive G3 ∷ [])) (OneChat (Group trip))
    ≡ Some (
    codes "chat group:abcdefghijk\n"
    ++ codes "name Trip\n"
    ++ codes "members ann@x.org, me@x.org, cid@x.org\n"
    ++ codes "timer 0\n"
    ++ codes "#1 2024-05-01 09:00 ann@x.org new: Welcome\n"
    ++ codes "#2 2024-05-01 09:10 ann@x.org new: Cid is here\n"
    ++ codes "#3 2024-05-01 09:20 ann@x.org new: Bob left\n"
    )
unfolding time_text civil_date span_and_rest digits chars encode
members_come_and_go = refl

-- the first card in mail order founds the group, of which Ann is then no member
oldest_mail_comes_last : answer (box (noon ∷ Arrive G1 ∷ Arrive G2 ∷ Arrive G3 ∷ noon ∷ Arrive G0 ∷ [])) (OneChat (Group trip))
    ≡ Some (
    codes "chat group:abcdefghijk\n"
    ++ codes "name Old trip\n"
    ++ codes "members bob@x.org, me@x.org, dan@x.org\n"
    ++ codes "timer 0\n"
    ++ codes "#4 2024-05-01 08:50 bob@x.org new: First\n"
    ++ codes "#1 2024-05-01 09:00 ann@x.org new: Welcome\n"
    ++ codes "#2 2024-05-01 09:10 ann@x.org new: Cid is here\n"
    ++ codes "#3 2024-05-01 09:20 ann@x.org new: Bob left\n"
    )
unfolding time_text civil_date span_and_rest digits chars encode
oldest_mail_comes_last = refl

stranger_answers_in_group : answer (box (noon ∷ Arrive G1 ∷ Arrive R3 ∷ [])) (OneChat (Group trip))
    ≡ Some (
    codes "chat group:abcdefghijk\n"
    ++ codes "name Trip\n"
    ++ codes "members ann@x.org, me@x.org, bob@x.org\n"
    ++ codes "timer 0\n"
    ++ codes "#1 2024-05-01 09:00 ann@x.org new: Welcome\n"
    ++ codes "#2 2024-05-01 09:50 bob@x.org new: [Re: Trip] Me too\n"
    )
unfolding time_text civil_date span_and_rest digits chars encode
stranger_answers_in_group = refl

removed_member_renames : answer (box (noon ∷ Arrive G1 ∷ Arrive G3 ∷ Arrive G4 ∷ [])) (OneChat (Group trip))
    ≡ Some (
    codes "chat group:abcdefghijk\n"
    ++ codes "name Trip\n"
    ++ codes "members ann@x.org, me@x.org, cid@x.org\n"
    ++ codes "timer 0\n"
    ++ codes "#1 2024-05-01 09:00 ann@x.org new: Welcome\n"
    ++ codes "#2 2024-05-01 09:20 ann@x.org new: Bob left\n"
    ++ codes "#3 2024-05-01 09:25 bob@x.org new: Mine\n"
    )
unfolding time_text civil_date span_and_rest digits chars encode
removed_member_renames = refl

timer_runs_since_seen : answer (box (At 900 ∷ Arrive T1 ∷ At 1000 ∷ Seen 1 ∷ At 1059 ∷ [])) (OneChat (Single bob))
    ≡ Some (
    codes "chat single:bob@x.org\n"
    ++ codes "name bob@x.org\n"
    ++ codes "members me@x.org, bob@x.org\n"
    ++ codes "timer 60\n"
    ++ codes "#1 1970-01-01 00:15 bob@x.org seen: Secret\n"
    )
unfolding time_text civil_date span_and_rest digits chars encode
timer_runs_since_seen = refl

timer_is_over : answer (box (At 900 ∷ Arrive T1 ∷ At 1000 ∷ Seen 1 ∷ At 1059 ∷ At 1060 ∷ [])) AllChats
    ≡ Some (codes "single:bob@x.org | bob@x.org | fresh 0 | - | -\n")
unfolding time_text civil_date span_and_rest digits chars encode
timer_is_over = refl

unseen_stays : answer (box (At 900 ∷ Arrive T1 ∷ At 9999 ∷ [])) AllChats
    ≡ Some (codes "single:bob@x.org | bob@x.org | fresh 1 | 1970-01-01 00:15 | Secret\n")
unfolding time_text civil_date span_and_rest digits chars encode
unseen_stays = refl

first_receipt_counts : answer (box (noon ∷ Arrive N1 ∷ Arrive O1 ∷ Arrive N2 ∷ [])) (OneChat (Single bob))
    ≡ Some (
    codes "chat single:bob@x.org\n"
    ++ codes "name bob@x.org\n"
    ++ codes "members me@x.org, bob@x.org\n"
    ++ codes "timer 0\n"
    ++ codes "#2 2024-05-01 10:00 me@x.org out: Dinner?\n"
    ++ codes "  read by bob@x.org 2024-05-01 10:04\n"
    )
unfolding time_text civil_date span_and_rest digits chars encode
first_receipt_counts = refl

updates_by_date : answer (box (noon ∷ Arrive A1 ∷ Arrive U1 ∷ Arrive U3 ∷ Arrive U2 ∷ [])) (AllUpdates (codes "a1@x.org"))
    ≡ Some (
    codes "1/3 bob@x.org | payload {\"move\":1} | info e4\n"
    ++ codes "2/3 bob@x.org | payload {\"move\":2}\n"
    ++ codes "3/3 bob@x.org | payload {\"move\":3} | info Nf3\n"
    )
unfolding time_text civil_date span_and_rest digits chars encode
updates_by_date = refl

updates_that_inform : answer (box (noon ∷ Arrive A1 ∷ Arrive U1 ∷ Arrive U3 ∷ Arrive U2 ∷ [])) (InfoUpdates (codes "a1@x.org"))
    ≡ Some (
    codes "1/3 bob@x.org | payload {\"move\":1} | info e4\n"
    ++ codes "3/3 bob@x.org | payload {\"move\":3} | info Nf3\n"
    )
unfolding time_text civil_date span_and_rest digits chars encode
updates_that_inform = refl

-- two mails have one id: the first in mail order is present, and the other one after it is gone
older_copy_is_seen : answer (box (noon ∷ Arrive M1 ∷ Arrive M2 ∷ Seen 2 ∷ [])) AllChats
    ≡ Some (codes "single:bob@x.org | Bob | fresh 0 | 2024-05-01 09:00 | Hi there\n")
unfolding time_text civil_date span_and_rest digits chars encode
older_copy_is_seen = refl

older_copy_is_gone : answer (box (noon ∷ Arrive M1 ∷ Arrive M2 ∷ Seen 2 ∷ Expunge 2 ∷ [])) AllChats
    ≡ Some (codes "single:bob@x.org | Bob | fresh 1 | 2024-05-01 10:00 | Hi\n")
unfolding time_text civil_date span_and_rest digits chars encode
older_copy_is_gone = refl

-- a date after the arrival counts as the arrival
no_sender : answer (box (noon ∷ ArriveFault NoFrom ∷ Arrive F2 ∷ [])) AllChats
    ≡ Some (
    codes "single:bob@x.org | bob@x.org | fresh 1 | 2024-05-01 12:00 | Late\n"
    ++ codes "fault 1 no From\n"
    )
unfolding time_text civil_date span_and_rest digits chars encode
no_sender = refl

three_chats : answer (box (At 1714665600 ∷ Arrive H1 ∷ Arrive H2 ∷ Arrive H3 ∷ Arrive G5 ∷ Arrive C1 ∷ [])) AllChats
    ≡ Some (
    codes "single:bob@x.org | Bob | fresh 1 | 2024-05-02 11:00 | [...]\n"
    ++ codes "group:abcdefghijk | Trip | fresh 1 | 2024-05-02 10:00 | A game\n"
    ++ codes "thread:h1@x.org | Plans | fresh 2 | 2024-05-02 09:00 | [Re: Plans] Agreed.\n"
    )
unfolding time_text civil_date span_and_rest digits chars encode
three_chats = refl

a_thread : answer (box (At 1714665600 ∷ Arrive H1 ∷ Arrive H2 ∷ Arrive H3 ∷ Arrive G5 ∷ Arrive C1 ∷ [])) (OneChat (Thread (codes "h1@x.org")))
    ≡ Some (
    codes "chat thread:h1@x.org\n"
    ++ codes "name Plans\n"
    ++ codes "members ann@x.org, me@x.org, bob@x.org\n"
    ++ codes "timer 0\n"
    ++ codes "#1 2024-05-02 08:00 ann@x.org new: [Plans] See the file.\n"
    ++ codes "  file application/pdf 5 plan.pdf\n"
    ++ codes "#2 2024-05-02 08:30 bob@x.org new: [Re: Plans] Fine.\n"
    ++ codes "#3 2024-05-02 09:00 me@x.org out: [Re: Plans] Agreed.\n"
    )
unfolding time_text civil_date span_and_rest digits chars encode
a_thread = refl

an_app : answer (box (At 1714665600 ∷ Arrive H1 ∷ Arrive H2 ∷ Arrive H3 ∷ Arrive G5 ∷ Arrive C1 ∷ [])) (OneChat (Group trip))
    ≡ Some (
    codes "chat group:abcdefghijk\n"
    ++ codes "name Trip\n"
    ++ codes "members ann@x.org, me@x.org, bob@x.org\n"
    ++ codes "timer 0\n"
    ++ codes "#4 2024-05-02 10:00 ann@x.org new: A game\n"
    ++ codes "  file application/webxdc+zip 4 chess.xdc\n"
    ++ codes "  updates 0\n"
    )
unfolding time_text civil_date span_and_rest digits chars encode
an_app = refl

an_encrypted_mail : answer (box (At 1714665600 ∷ Arrive H1 ∷ Arrive H2 ∷ Arrive H3 ∷ Arrive G5 ∷ Arrive C1 ∷ [])) (OneChat (Single bob))
    ≡ Some (
    codes "chat single:bob@x.org\n"
    ++ codes "name Bob\n"
    ++ codes "members me@x.org, bob@x.org\n"
    ++ codes "timer 0\n"
    ++ codes "#5 2024-05-02 11:00 bob@x.org new: [...]\n"
    ++ codes "  file multipart/encrypted 62 -\n"
    )
unfolding time_text civil_date span_and_rest digits chars encode
an_encrypted_mail = refl

contacts_of_the_day : answer (box (At 1714665600 ∷ Arrive H1 ∷ Arrive H2 ∷ Arrive H3 ∷ Arrive G5 ∷ Arrive C1 ∷ [])) AllContacts
    ≡ Some (
    codes "ann@x.org | Ann\n"
    ++ codes "bob@x.org | Bob\n"
    )
unfolding time_text civil_date span_and_rest digits chars encode
contacts_of_the_day = refl

-- edges
edited_to_nothing : answer (box (noon ∷ Arrive M1 ∷ Arrive (record E1 { text = [] }) ∷ [])) (OneChat (Single bob))
    ≡ Some (
    codes "chat single:bob@x.org\n"
    ++ codes "name Bob\n"
    ++ codes "members me@x.org, bob@x.org\n"
    ++ codes "timer 0\n"
    ++ codes "#1 2024-05-01 10:00 bob@x.org new:  [edited]\n"
    )
unfolding time_text civil_date span_and_rest digits chars encode
edited_to_nothing = refl

nobody_is_left : answer (box (noon ∷ Arrive (record G1 { to = []; removed = Some ann }) ∷ [])) (OneChat (Group trip))
    ≡ Some (
    codes "chat group:abcdefghijk\n"
    ++ codes "name Trip\n"
    ++ codes "members \n"
    ++ codes "timer 0\n"
    ++ codes "#1 2024-05-01 09:00 ann@x.org new: Welcome\n"
    )
unfolding time_text civil_date span_and_rest digits chars encode
nobody_is_left = refl

-- of one sender a Delete counts, and the chat stays
withdrawn : answer (box (noon ∷ Arrive M1 ∷ Arrive (record X2 { from = bob }) ∷ [])) AllChats
    ≡ Some (codes "single:bob@x.org | Bob | fresh 0 | - | -\n")
unfolding time_text civil_date span_and_rest digits chars encode
withdrawn = refl

no_chat : answer (box (noon ∷ Arrive M1 ∷ [])) (OneChat (Group trip)) ≡ None
no_chat = refl

no_app : answer (box (noon ∷ Arrive M1 ∷ [])) (AllUpdates (codes "m1@x.org")) ≡ None
no_app = refl

-- how changes move the present cards: of one id the first in mail order is there
turn_in : turn (box (noon ∷ [])) (Arrive M1) ≡ Add (spot (at 10 0) 1)
turn_in = refl

turn_earlier : turn (box (noon ∷ Arrive M1 ∷ [])) (Arrive M2) ≡ Replace (spot (at 10 0) 1) (spot (at 9 0) 2)
turn_earlier = refl

turn_later : turn (box (noon ∷ Arrive M2 ∷ [])) (Arrive M1) ≡ Nothing
turn_later = refl

turn_gives_way : turn (box (noon ∷ Arrive M1 ∷ Arrive M2 ∷ [])) (Expunge 2) ≡ Replace (spot (at 9 0) 2) (spot (at 10 0) 1)
turn_gives_way = refl

turn_out : turn (box (noon ∷ Arrive M1 ∷ [])) (Expunge 1) ≡ Remove (spot (at 10 0) 1)
turn_out = refl

turn_out_unknown : turn (box (noon ∷ Arrive M1 ∷ [])) (Expunge 2) ≡ Nothing
turn_out_unknown = refl

turn_seen : turn (box (noon ∷ Arrive M1 ∷ [])) (Seen 1) ≡ Marked 1
turn_seen = refl

turn_seen_again : turn (box (noon ∷ Arrive M1 ∷ Seen 1 ∷ [])) (Seen 1) ≡ Nothing
turn_seen_again = refl

turn_seen_hidden : turn (box (noon ∷ Arrive M1 ∷ Arrive M2 ∷ [])) (Seen 1) ≡ Nothing
turn_seen_hidden = refl

turn_clock : turn (box (noon ∷ [])) (At 1714564801) ≡ Moved 1714564801
turn_clock = refl

turn_clock_back : turn (box (noon ∷ [])) (At 1000) ≡ Nothing
turn_clock_back = refl

-- what a uid and an id lead to
first_copy : spot_of (box (noon ∷ Arrive M1 ∷ Arrive M2 ∷ [])) (codes "m1@x.org") ≡ Some (spot (at 9 0) 2)
first_copy = refl

no_copy : spot_of (box (noon ∷ [])) (codes "m1@x.org") ≡ None
no_copy = refl

hidden_copy : card_at (box (noon ∷ Arrive M1 ∷ Arrive M2 ∷ [])) 1 ≡ Some M1
hidden_copy = refl

expunged : card_at (box (noon ∷ Arrive M1 ∷ Expunge 1 ∷ Arrive M2 ∷ [])) 1 ≡ None
expunged = refl

seen_item : item_at (box (noon ∷ Arrive M1 ∷ At 1714564801 ∷ Seen 1 ∷ [])) 1
    ≡ Some (record { uid = 1; arrival = 1714564800; seen = Some 1714564801; held = is_held.Card })
seen_item = refl

item_of_fault : item_at (box (noon ∷ ArriveFault NoFrom ∷ [])) 1
    ≡ Some (record { uid = 1; arrival = 1714564800; seen = None; held = is_held.Fault NoFrom })
item_of_fault = refl

no_card_for_it : entry_of (record { uid = 1; arrival = 0; seen = None; held = is_held.Card }) None ≡ None
no_card_for_it = refl

-- a parent that comes late takes its answers with it, the one that comes among them
moved_by_parent : (
    let sooner = cites (box (noon ∷ Arrive R1 ∷ Arrive R2 ∷ [])) in
    let later = cites (box (noon ∷ Arrive R1 ∷ Arrive R2 ∷ Arrive G1 ∷ [])) in
    moves later sooner later
    )
    ≡ record { id = codes "g1@x.org"; before = None; after = Some (Group trip) }
    ∷ record { id = codes "r1@x.org"; before = Some (Thread (codes "g1@x.org")); after = Some (Group trip) }
    ∷ record { id = codes "r2@x.org"; before = Some (Thread (codes "g1@x.org")); after = Some (Group trip) }
    ∷ []
moved_by_parent = refl

-- what names a mail, in mail order, and where the last shown card of a chat is
named : map (λ p. p.uid) (naming (codes "m1@x.org") (present_cards (box (noon ∷ Arrive E1 ∷ Arrive M1 ∷ Arrive E2 ∷ Arrive O1 ∷ []))))
    ≡ 3 ∷ 1 ∷ []
named = refl

last_shown : last_spot (chat_cards (box (noon ∷ Arrive M1 ∷ [])) (Single bob)) ≡ Some (spot (at 10 0) 1)
last_shown = refl

one_is_fresh : fresh_among (chat_cards (box (noon ∷ Arrive M1 ∷ [])) (Single bob)) ≡ 1
one_is_fresh = refl

-- the last uid that a mail can have is 4,294,967,294
last_uid : full (record (box []) { next_uid = 4294967294 }) (ArriveFault NoFrom) ≡ false
last_uid = refl

no_uid_left : full (record (box []) { next_uid = 4294967295 }) (ArriveFault NoFrom) ≡ true
no_uid_left = refl
