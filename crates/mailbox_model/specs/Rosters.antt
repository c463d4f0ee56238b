-- Who is in a chat, how a group or thread is called, and when its mails vanish.
use Rattle.std.specs.Prelude.{ℕ, Bool, true, false, ◌&&◌, ◌||◌, if◌then◌else◌, is_some, List, [], ◌∷◌, ◌++◌, map, fold}
use Rattle.std.specs.Option.{option_map_or, option_to_list}
use Rattle.lists.specs.Distinct.{each_once}
use Rattle.card_type.specs.declared.card.Card.{Card}
use Rattle.card_type.specs.declared.key.ChatKey.{ChatKey}
use Rattle.card_type.specs.declared.key.ChatKey.TheVariants.{SelfChat, Single, Group, Thread}
use Rattle.card_type.specs.Effects.{is_among}
use Rattle.card_type.specs.Kinds.{has_some}
use Rattle.mailbox_model.specs.declared.roster.Roster.{Roster}
use Rattle.mailbox_model.specs.Lists.{Bytes, without}
use Rattle.mailbox_model.specs.Mailbox.{Mailbox}
use Rattle.mailbox_model.specs.Chats.{people, chat_mails}

-- From, To and the added one, each once, without the removed one
abbrev pub listed : Card → List Bytes
listed c =
    let all = each_once ((c.from ∷ c.to) ++ option_to_list c.added) in
    option_map_or (λ removed. without removed all) c.removed all

-- the timer that a chat has after a card
abbrev pub timer_after : ℕ → Card → ℕ
timer_after timer c = if c.chat then c.timer else timer

-- ---- a group

-- the first card says who is in, the name and the timer
abbrev pub group_begun : Card → Roster
group_begun c = record { begun = true; members = listed c; name = c.group_name; timer = timer_after 0 c }

abbrev pub changes_members : Card → Bool
changes_members c = is_some c.added || is_some c.removed

abbrev pub changes_name : Card → Bool
changes_name c = c.renamed && has_some c.group_name

-- a card of a member may say them anew
abbrev pub group_after_member : Roster → Card → Roster
group_after_member r c =
    record r {
      members = if changes_members c then listed c else r.members;
      name = if changes_name c then c.group_name else r.name;
      timer = timer_after r.timer c;
    }

-- a card of a stranger says nothing
abbrev pub group_after : Roster → Card → Roster
group_after r c = if is_among r.members c.from then group_after_member r c else r

-- ---- other chats

abbrev pub thread_begun : Card → Roster
thread_begun c = record { begun = true; members = each_once (people c); name = c.subject; timer = timer_after 0 c }

abbrev pub thread_after : Roster → Card → Roster
thread_after r c = record r { members = each_once (r.members ++ people c); timer = timer_after r.timer c }

abbrev pub direct_begun : List Bytes → Card → Roster
direct_begun members c = record { begun = true; members = members; name = []; timer = timer_after 0 c }

abbrev pub direct_after : Roster → Card → Roster
direct_after r c = record r { timer = timer_after r.timer c }

-- ---- any chat

-- who is in a chat before it has a card
abbrev pub first_members : Bytes → ChatKey → List Bytes
first_members me SelfChat = me ∷ []
first_members me (Single a) = me ∷ a ∷ []
first_members me (Group g) = []
first_members me (Thread i) = []

-- of the first card
abbrev pub roster_begun : Bytes → ChatKey → Card → Roster
roster_begun me SelfChat c = direct_begun (first_members me SelfChat) c
roster_begun me (Single a) c = direct_begun (first_members me (Single a)) c
roster_begun me (Group g) c = group_begun c
roster_begun me (Thread i) c = thread_begun c

-- after each further card
abbrev pub roster_after : ChatKey → Roster → Card → Roster
roster_after SelfChat r c = direct_after r c
roster_after (Single a) r c = direct_after r c
roster_after (Group g) r c = group_after r c
roster_after (Thread i) r c = thread_after r c

-- of no card
abbrev pub no_roster : Bytes → ChatKey → Roster
no_roster me key = record { begun = false; members = first_members me key; name = []; timer = 0 }

-- of these cards, in mail order: the first one, and then the others
abbrev pub roster_of : Bytes → ChatKey → List Card → Roster
roster_of me key [] = no_roster me key
roster_of me key (c ∷ cs) = fold (roster_after key) (roster_begun me key c) cs

abbrev pub roster : Mailbox → ChatKey → Roster
roster m key = roster_of m.me key (map (λ t. t.placed.card) (chat_mails m key))
