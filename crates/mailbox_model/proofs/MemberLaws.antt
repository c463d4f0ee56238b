-- Each member of a chat stands once, and no chat is without a name.
use Rattle.std.proofs.Common.{◌≡◌, refl, sym, ap, ◌∙◌, subst, true, false, not, Option, Some, None, List, [], ◌∷◌, ◌++◌, length, map, arith, length-append}
use Rattle.std.specs.Prelude.{if◌then◌else◌, fold, find, IfSome, codes, unwrap_or, is_some}
use Rattle.std.specs.List.{AllByRecursion, IsDistinct, list_any}
use Rattle.std.specs.Option.{option_map, option_map_or, option_or, option_and_then, option_to_list}
use Rattle.std.specs.Str.{bytes_eq}
use Rattle.std.proofs.lemmas.Bool.{false≢true, lt-ltb}
use Rattle.std.proofs.lemmas.List.{map-append}
use Rattle.lists.specs.Distinct.{each_once}
use Rattle.lists.proofs.DistinctLaws.{IsDistinct-filter, IsDistinct-firsts}
use Rattle.lists.proofs.Inserts.{None_of, filter_none, All-firsts, found_all, found_passes, list_any-found}
use Rattle.card_type.specs.declared.card.Card.{Card}
use Rattle.card_type.specs.declared.key.ChatKey.{ChatKey}
use Rattle.card_type.specs.declared.key.ChatKey.TheVariants.{SelfChat, Single, Group, Thread}
use Rattle.card_type.specs.Effects.{is_among}
use Rattle.card_type.specs.Kinds.{has_some}
use Rattle.card_type.specs.Keys.{key_eq}
use Rattle.card_type.specs.KeyTexts.{key_text}
use Rattle.mailbox_model.specs.declared.links.Cites.{Cites}
use Rattle.mailbox_model.specs.declared.roster.Roster.{Roster}
use Rattle.mailbox_model.specs.Lists.{Bytes, without, first_some}
use Rattle.mailbox_model.specs.Mailbox.{Mailbox}
use Rattle.mailbox_model.specs.Present.{Mail, spot, contents}
use Rattle.mailbox_model.specs.Chats.{people, others, direct_chat, own_chat, cites_by, handed_on, chat_from, Known, known_chat, next_chat, known_after, chats, chat_mails}
use Rattle.mailbox_model.specs.Rosters.{listed, changes_members, group_after, group_after_member, roster_begun, roster_after, no_roster, roster_of, roster}
use Rattle.mailbox_model.specs.Names.{name_by, name_or_empty}
use Rattle.mailbox_model.specs.Pages.{keys}
use Rattle.mailbox_model.proofs.Elements.{All-append}
use Rattle.mailbox_model.proofs.ListLaws.{key_same}

-- ---- names

some_key : (key : ChatKey) → has_some (key_text key) ≡ true
some_key SelfChat = refl
some_key (Single a) = lt-ltb 0 (length (codes "single:" ++ a)) (omega (arith, length-append (codes "single:") a))
some_key (Group g) = lt-ltb 0 (length (codes "group:" ++ g)) (omega (arith, length-append (codes "group:") g))
some_key (Thread i) = lt-ltb 0 (length (codes "thread:" ++ i)) (omega (arith, length-append (codes "thread:") i))

pub some_name : (key : ChatKey) (r : Roster) (contact : Bytes → Bytes) → has_some (name_by key r contact) ≡ true
some_name key r contact = by (name_or_empty key r contact)
  where
    by : (text : Bytes) → has_some (if has_some text then text else key_text key) ≡ true
    by text =
        elim (has_some text) as (λ b. has_some text ≡ b → has_some (if b then text else key_text key) ≡ true) [ true ↦ λ e. e | false ↦ λ e. some_key key ] refl

-- ---- members of a group or a thread

abbrev EachOnce : List Bytes → Type 0
EachOnce addrs = IsDistinct bytes_eq addrs

listed_once : (c : Card) → EachOnce (listed c)
listed_once c = by c.removed
  where
    all : List Bytes
    all = each_once ((c.from ∷ c.to) ++ option_to_list c.added)

    by : (o : Option Bytes) → EachOnce (option_map_or (λ removed. without removed all) o all)
    by None = IsDistinct-firsts bytes_eq ((c.from ∷ c.to) ++ option_to_list c.added)
    by (Some x) = IsDistinct-filter bytes_eq (λ y. not (bytes_eq x y)) all (IsDistinct-firsts bytes_eq ((c.from ∷ c.to) ++ option_to_list c.added))

group_once : (r : Roster) (c : Card) → EachOnce r.members → EachOnce (group_after r c).members
group_once r c h =
    elim (is_among r.members c.from) as (λ b. EachOnce (if b then group_after_member r c else r).members) [
      | true ↦ elim (changes_members c) as (λ b. EachOnce (if b then listed c else r.members)) [ true ↦ listed_once c | false ↦ h ]
      | false ↦ h
    ]

-- of the chat with one other, who is not oneself
abbrev pub IsWithOther : Bytes → ChatKey → Type 0
IsWithOther me SelfChat = Unit {0}
IsWithOther me (Single a) = bytes_eq me a ≡ false
IsWithOther me (Group g) = Unit {0}
IsWithOther me (Thread i) = Unit {0}

after_once : (key : ChatKey) (r : Roster) (c : Card) → EachOnce r.members → EachOnce (roster_after key r c).members
after_once SelfChat r c h = h
after_once (Single a) r c h = h
after_once (Group g) r c h = group_once r c h
after_once (Thread i) r c h = IsDistinct-firsts bytes_eq (r.members ++ people c)

begun_once : (me : Bytes) (key : ChatKey) (c : Card) → IsWithOther me key → EachOnce (roster_begun me key c).members
unfolding IsDistinct
begun_once me SelfChat c w = (tt, tt)
begun_once me (Single a) c w = ((w, tt), (tt, tt))
begun_once me (Group g) c w = listed_once c
begun_once me (Thread i) c w = IsDistinct-firsts bytes_eq (people c)

all_once : (key : ChatKey) (r : Roster) (cs : List Card) → EachOnce r.members → EachOnce (fold (roster_after key) r cs).members
all_once key r [] h = h
all_once key r (c ∷ cs) h = all_once key (roster_after key r c) cs (after_once key r c h)

none_once : (me : Bytes) (key : ChatKey) → IsWithOther me key → EachOnce (no_roster me key).members
unfolding IsDistinct
none_once me SelfChat w = (tt, tt)
none_once me (Single a) w = ((w, tt), (tt, tt))
none_once me (Group g) w = tt
none_once me (Thread i) w = tt

pub roster_once : (me : Bytes) (key : ChatKey) (cs : List Card) → IsWithOther me key → EachOnce (roster_of me key cs).members
roster_once me key [] w = none_once me key w
roster_once me key (c ∷ cs) w = all_once key (roster_begun me key c) cs (begun_once me key c w)

-- ---- no chat of a mailbox is with oneself as another

direct_other : (me : Bytes) (addrs : List Bytes) → None_of (bytes_eq me) addrs → IfSome (direct_chat addrs) (IsWithOther me)
direct_other me [] n = tt
direct_other me (a ∷ []) n = n.0
direct_other me (a ∷ b ∷ more) n = tt

own_other : (me : Bytes) (t : Card) → IfSome (own_chat me t) (IsWithOther me)
own_other me t = by t.group
  where
    by : (o : Option Bytes) → IfSome (option_or (option_map Group o) (direct_chat (others me t))) (IsWithOther me)
    by (Some g) = tt
    by None = direct_other me (others me t) (filter_none (bytes_eq me) (each_once (people t)))

from_other : (me : Bytes) (t : Cites) → IfSome t.own (IsWithOther me) → (of_parent : Option ChatKey)
    → IsWithOther me (chat_from t of_parent)
from_other me t h of_parent = own t.own h
  where
    handed : (o : Option ChatKey) → IsWithOther me (unwrap_or (option_and_then handed_on o) (Thread t.root))
    handed None = tt
    handed (Some SelfChat) = tt
    handed (Some (Single a)) = tt
    handed (Some (Group g)) = tt
    handed (Some (Thread r)) = tt

    own : (o : Option ChatKey) → IfSome o (IsWithOther me)
        → IsWithOther me (unwrap_or o (unwrap_or (option_and_then handed_on of_parent) (Thread t.root)))
    own (Some key) k = k
    own None k = handed of_parent

abbrev AreOthers : Bytes → Known → Type 0
AreOthers me known = AllByRecursion (IsWithOther me) (map (λ k. k.1) known)

more_others : (me : Bytes) (known : Known) (k : Bytes × ChatKey) → AreOthers me known → IsWithOther me k.1
    → AreOthers me (known ++ k ∷ [])
more_others me known k a h =
    subst (AllByRecursion (IsWithOther me)) (sym (map-append (λ k. k.1) known (k ∷ [])))
    (All-append (IsWithOther me) (map (λ k. k.1) known) (k.1 ∷ []) a (h, tt))

known_others : (me : Bytes) (known : Known) (ts : List Mail) → AreOthers me known
    → AreOthers me (known_after known (map (λ t. cites_by me (spot t.placed) t.placed.card) ts))
known_others me known [] a = a
known_others me known (t ∷ ts) a =
    let c = cites_by me (spot t.placed) t.placed.card in
    known_others me (known ++ (c.spot.id, next_chat known c) ∷ []) ts (more_others me known (c.spot.id, next_chat known c) a (from_other me c (own_other me t.placed.card) (first_some (known_chat known) c.candidates)))

pub key_other : (m : Mailbox) (key : ChatKey) → list_any (key_eq key) (keys m) ≡ true → IsWithOther m.me key
key_other m key h = by (find (key_eq key) (keys m)) refl (sym (list_any-found (key_eq key) (keys m)) ∙ h)
  where
    by : (o : Option ChatKey) → find (key_eq key) (keys m) ≡ o → is_some (find (key_eq key) (keys m)) ≡ true → IsWithOther m.me key
    by (Some k) e s =
        subst (IsWithOther m.me) (sym (key_same key k (found_passes (key_eq key) (keys m) k e)))
        (found_all (IsWithOther m.me) (key_eq key) (keys m) k (All-firsts (IsWithOther m.me) key_eq (map (λ k. k.1) (chats m)) (known_others m.me [] (contents m) tt)) e)
    by None e s = absurd (false≢true (sym (ap is_some e) ∙ s))

pub members_once : (m : Mailbox) (key : ChatKey) → list_any (key_eq key) (keys m) ≡ true → EachOnce (roster m key).members
members_once m key h = roster_once m.me key (map (λ t. t.placed.card) (chat_mails m key)) (key_other m key h)
