-- How many reads of kept cards the repair of the touched chats may take.
use Rattle.std.specs.Prelude.{◌≡◌, ℕ, ◌+◌, ◌*◌, Bool, true, not, ◌&&◌, List, [], ◌∷◌, ◌++◌, length, map, filter, find, sum_by, count_by}
use Rattle.std.specs.List.{list_any, AllByRecursion}
use Rattle.std.specs.Option.{option_eq, option_map_or}
use Rattle.lists.specs.Distinct.{firsts}
use Rattle.card_type.specs.declared.key.ChatKey.{ChatKey}
use Rattle.card_type.specs.Effects.{is_among, names}
use Rattle.card_type.specs.Keys.{key_eq}
use Rattle.card_type.specs.Spots.{spot_eq}
use Rattle.mailbox_model.specs.declared.change.Change.{Change}
use Rattle.mailbox_model.specs.declared.turn.Turn.{Turn}
use Rattle.mailbox_model.specs.Lists.{Bytes}
use Rattle.mailbox_model.specs.Mailbox.{Mailbox, after}
use Rattle.mailbox_model.specs.Present.{Mail, spot, has_id, same_uid, present, contents}
use Rattle.mailbox_model.specs.Chats.{candidates, chat, is_chat, chat_mails}
use Rattle.mailbox_model.specs.Pages.{keys}
use Rattle.mailbox_model.specs.Turns.{turn}
use Rattle.touched_chats.specs.Suspects.{is_suspect}

-- of two mailboxes: these, and those of the other that have a uid which none of these has
abbrev pub by_uid : List Mail → List Mail → List Mail
by_uid ts more = ts ++ filter (λ u. not (list_any (same_uid u) ts)) more

-- a card is in one of these chats
abbrev pub is_in_any : Mailbox → List ChatKey → Mail → Bool
is_in_any m held t = list_any (λ key. is_chat key (chat m t.placed.card.id)) held

-- c: the cards of these chats, after or before
abbrev pub cards_in : Mailbox → Mailbox → List ChatKey → List Mail
cards_in m n held = by_uid (filter (is_in_any n held) (contents n)) (filter (is_in_any m held) (contents m))

abbrev pub same_place : Mail → Mail → Bool
same_place a b = spot_eq (spot a.placed) (spot b.placed)

-- the card with an id is there alike, at one spot and in one chat
abbrev pub is_settled : Mailbox → Mailbox → Bytes → Bool
is_settled m n id = option_eq same_place (find (has_id id) (contents m)) (find (has_id id) (contents n)) && option_eq key_eq (chat m id) (chat n id)

abbrev pub cites_unsettled : Mailbox → Mailbox → Mail → Bool
cites_unsettled m n t = list_any (λ id. not (is_settled m n id)) (candidates t.placed.card)

-- k: the cards, after or before, of which a candidate is another one, or in another chat
abbrev pub citing_unsettled : Mailbox → Mailbox → List Mail
citing_unsettled m n = filter (cites_unsettled m n) (by_uid (contents n) (contents m))

-- how many of these mails name an id
abbrev pub times_named_among : List Mail → Bytes → ℕ
times_named_among es id = count_by (λ e. is_among (names e.card) id) (map (λ e. e.placed) es)

-- e: the pairs of one of these and a mail that is present after or before and names it
abbrev pub pairs_of : Mailbox → Mailbox → List Mail → ℕ
pairs_of m n ts = sum_by (λ t. times_named_among (by_uid (present n) (present m)) t.placed.card.id) ts

-- where these are the touched chats
abbrev pub repair_cost : Mailbox → Mailbox → List ChatKey → ℕ
repair_cost m n held =
    let c = cards_in m n held in
    let k = citing_unsettled m n in
    4 * (length c + length k + pairs_of m n (by_uid c k)) + 16

-- the suspect chats that are there, each once: they are the touched ones
abbrev pub touched_keys : Mailbox → Mailbox → Turn → List ChatKey
touched_keys m n turn = filter (is_suspect m n turn) (firsts key_eq (keys n ++ keys m))

-- what the repair after a change may cost
abbrev pub change_cost : Mailbox → Change → ℕ
change_cost m change = let n = after m change in repair_cost m n (touched_keys m n (turn m change))

-- and those after changes that are made one after the other
abbrev pub change_costs : Mailbox → List Change → ℕ
change_costs m [] = 0
change_costs m (change ∷ changes) = change_cost m change + change_costs (after m change) changes

-- ---- what folding chats anew reads: each card, and for each the cards that name it

abbrev pub row_reads : Mailbox → Mail → ℕ
row_reads m t = 1 + times_named_among (present m) t.placed.card.id

abbrev pub chat_reads : Mailbox → ChatKey → ℕ
chat_reads m key = sum_by (row_reads m) (chat_mails m key)

abbrev pub refold_reads : Mailbox → List ChatKey → ℕ
refold_reads m keys = sum_by (chat_reads m) keys

-- and where all is made anew, each present card once more
abbrev pub build_reads : Mailbox → ℕ
build_reads m = length (present m) + sum_by (row_reads m) (contents m)

-- each of these is among others
abbrev pub AreHeld : List ChatKey → List ChatKey → Type 0
AreHeld held keys = AllByRecursion (λ key. list_any (key_eq key) held ≡ true) keys

-- ---- what settling the card with an id reads: it as it was, and as it is with the cards that name it

abbrev pub settle_reads : Mailbox → Mailbox → Bytes → ℕ
settle_reads m n id =
    option_map_or (λ t. 1) (find (has_id id) (contents m)) 0 + option_map_or (row_reads n) (find (has_id id) (contents n)) 0
