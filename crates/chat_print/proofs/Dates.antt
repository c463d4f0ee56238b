-- The dates on the pages of a mailbox are moments.
use Rattle.std.proofs.Common.{◌≤◌, Bool, true, false, ◌||◌, Option, Some, None, IfSome, List, [], ◌∷◌, map, filter, filter_map, option_map, arith, if◌then◌else◌}
use Rattle.std.specs.List.{AllByRecursion, cons_option, list_any}
use Rattle.std.specs.Option.{option_or}
use Rattle.std.proofs.lemmas.List.Elements.{All-from_recursion}
use Rattle.lists.specs.Distinct.{firsts}
use Rattle.lists.proofs.Inserts.{All-filter, All-firsts}
use Rattle.lists.proofs.Sorted.{All-sorted_by}
use Rattle.card_type.specs.declared.card.Card.{Card}
use Rattle.card_type.specs.declared.effect.Effect.{Effect}
use Rattle.card_type.specs.declared.effect.Effect.TheVariants as effects
use Rattle.card_type.specs.declared.key.ChatKey.{ChatKey}
use Rattle.card_type.specs.Effects.{effect_of}
use Rattle.card_type.specs.Keys.{key_eq}
use Rattle.card_type.specs.Kinds.{kind_of, is_content}
use Rattle.mailbox_model.specs.declared.row.Row.{Row}
use Rattle.mailbox_model.specs.declared.page.ChatPage.{ChatPage}
use Rattle.mailbox_model.specs.Chats.{chats, chat_mails, is_chat, known_chat}
use Rattle.mailbox_model.specs.ChatList.{list_cmp, list_page, list_row}
use Rattle.mailbox_model.specs.Lists.{Bytes, last_of}
use Rattle.mailbox_model.specs.Mailbox.{Mailbox, IsMailbox}
use Rattle.mailbox_model.specs.Pages.{keys, page, page_of, shown_rows}
use Rattle.mailbox_model.specs.Present.{Placed, Mail, contents, present, present_cards}
use Rattle.mailbox_model.specs.Rows.{Act, act_on, acting, acting_by, is_effect, is_expired, is_withdrawn, readers_by, row, same_sender, shown_by}
use Rattle.mailbox_model.proofs.StillLaws.{present_dates}
use Rattle.chat_print.specs.Moments.{IsMoment, HasMoment, ListHasMoments, ReaderHasMoment, RowHasMoments, ChatHasMoments}

-- ---- what holds of each value of a list that is made of another one

map_all : {X Y : Type 0} (P : Y → Type 0) (f : X → Y) (xs : List X) → AllByRecursion (λ x. P (f x)) xs → AllByRecursion P (map f xs)
map_all P f [] a = tt
map_all P f (x ∷ xs) a = (a.0, map_all P f xs a.1)

filter_map_all : {X Y : Type 0} (P : Y → Type 0) (f : X → Option Y) (xs : List X) → AllByRecursion (λ x. IfSome (f x) P) xs → AllByRecursion P (filter_map f xs)
filter_map_all P f [] a = tt
filter_map_all {Y = Y} P f (x ∷ xs) a = by (f x) a.0 (filter_map_all P f xs a.1)
  where
    by : (o : Option Y) → IfSome o P → AllByRecursion P (filter_map f xs) → AllByRecursion P (cons_option o (filter_map f xs))
    by None h rest = rest
    by (Some y) h rest = (h, rest)

each : {X : Type 0} (P Q : X → Type 0) → ((x : X) → P x → Q x) → (xs : List X) → AllByRecursion P xs → AllByRecursion Q xs
each P Q f [] a = tt
each P Q f (x ∷ xs) a = (f x a.0, each P Q f xs a.1)

-- ---- what acts on a card has moments

abbrev Dated : Placed → Type 0
Dated p = IsMoment p.date

abbrev MailDated : Mail → Type 0
MailDated t = Dated t.placed

abbrev ActDated : Act → Type 0
ActDated act = Dated act.by

present_dated : (m : Mailbox) → IsMailbox m → AllByRecursion MailDated (present m)
present_dated m k = each (λ t. t.placed.date ≤ m.now) MailDated (λ t le. omega (arith, le, k.moment)) (present m) (present_dates m k)

act_dated : (me : Bytes) (t : Card) (e : Placed) → Dated e → IfSome (act_on me t e) ActDated
act_dated me t e d = by (effect_of e.card t me)
  where
    by : (o : Option Effect) → IfSome (option_map (λ effect. record { effect = effect; by = e }) o) ActDated
    by None = tt
    by (Some effect) = d

acts_dated : (m : Mailbox) (t : Card) → IsMailbox m → AllByRecursion ActDated (acting m t)
acts_dated m t k =
    let cards = map_all Dated (λ t. t.placed) (present m) (present_dated m k) in
    filter_map_all ActDated (act_on m.me t) (present_cards m) (each Dated (λ e. IfSome (act_on m.me t e) ActDated) (act_dated m.me t) (present_cards m) cards)

readers_dated : (acts : List Act) → AllByRecursion ActDated acts → AllByRecursion ReaderHasMoment (readers_by (acting_by effects.Read acts))
readers_dated acts a =
    let kept = All-filter ActDated (λ act. is_effect effects.Read act.effect) acts a in
    let receipts = map_all Dated (λ act. act.by) (filter (λ act. is_effect effects.Read act.effect) acts) kept in
    map_all ReaderHasMoment (λ e. (e.card.from, e.date)) (firsts same_sender (acting_by effects.Read acts)) (All-firsts Dated same_sender (acting_by effects.Read acts) receipts)

-- ---- and so have rows

row_dated : (m : Mailbox) (t : Mail) → IsMailbox m → MailDated t → IfSome (row m t) RowHasMoments
row_dated m t k d =
    let acts = acting m t.placed.card in
    by (is_withdrawn acts || is_expired m.me m.now t) (shown_by m.me t acts) (d, All-from_recursion ReaderHasMoment _ (readers_dated acts (acts_dated m t.placed.card k)))
  where
    by : (hidden : Bool) (r : Row) → RowHasMoments r → IfSome (if hidden then None else Some r) RowHasMoments
    by true r h = tt
    by false r h = h

rows_dated : (m : Mailbox) (key : ChatKey) → IsMailbox m → AllByRecursion RowHasMoments (shown_rows m key)
rows_dated m key k =
    let known = chats m in
    let content = All-filter MailDated (λ t. is_content (kind_of t.placed.card)) (present m) (present_dated m k) in
    let mails = All-filter MailDated (λ t. is_chat key (known_chat known t.placed.card.id)) (contents m) content in
    filter_map_all RowHasMoments (row m) (chat_mails m key) (each MailDated (λ t. IfSome (row m t) RowHasMoments) (λ t. row_dated m t k) (chat_mails m key) mails)

-- ---- and the pages

pub chat_dated : (m : Mailbox) (key : ChatKey) → IsMailbox m → IfSome (page m key) ChatHasMoments
chat_dated m key k = by (list_any (key_eq key) (keys m)) (page_of m key) (All-from_recursion RowHasMoments (shown_rows m key) (rows_dated m key k))
  where
    by : (there : Bool) (p : ChatPage) → ChatHasMoments p → IfSome (if there then Some p else None) ChatHasMoments
    by true p h = h
    by false p h = tt

last_dated : (rows : List Row) → AllByRecursion RowHasMoments rows → IfSome (option_map (λ r. r.date) (last_of rows)) IsMoment
last_dated [] a = tt
last_dated (r ∷ rs) a = by (last_of rs) (last_dated rs a.1)
  where
    by : (o : Option Row) → IfSome (option_map (λ r. r.date) o) IsMoment → IfSome (option_map (λ r. r.date) (option_or o (Some r))) IsMoment
    by None h = a.0.0
    by (Some q) h = h

pub list_dated : (m : Mailbox) → IsMailbox m → ListHasMoments (list_page m)
list_dated m k =
    let rows = map_all HasMoment (list_row m) (keys m) (all (keys m)) in
    All-sorted_by list_cmp HasMoment (map (list_row m) (keys m)) (All-from_recursion HasMoment _ rows)
  where
    all : (ks : List ChatKey) → AllByRecursion (λ key. HasMoment (list_row m key)) ks
    all [] = tt
    all (key ∷ ks) = (last_dated (shown_rows m key) (rows_dated m key k), all ks)
