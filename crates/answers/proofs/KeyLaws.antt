-- The key of each chat of a mailbox is what its variant holds, since each card is valid.
use Rattle.std.proofs.Common.{Bool, true, false, ◌&&◌, ◌++◌, not, List, [], ◌∷◌, ℕ, Option, Some, None, Ok, Err, IfSome, IfOk, IsTrue, map, find, refl, cond}
use Rattle.std.proofs.lemmas.Bool.{false≢true}
use Rattle.std.specs.List.{AllByRecursion, cons_option, list_all}
use Rattle.std.proofs.lemmas.List.Elements.{All-from_recursion, recursion_from_All}
use Rattle.mailbox_model.specs.declared.change.Fault.{Fault}
use Rattle.std.specs.Option.{option_or}
use Rattle.std.specs.declared.result.Result.{Result}
use Rattle.std.specs.Str.{is_utf8}
use Rattle.std.specs.Prelude.{◌^◌, nat_lt, option_map, slice_get, unwrap_or, filter_map, bytes_eq}
use Rattle.lists.specs.Distinct.{each_once}
use Rattle.lists.proofs.Inserts.{All-filter, All-firsts}
use Rattle.lists.proofs.Sorted.{All-sorted_by}
use Rattle.kit.specs.Addresses.{is_addr}
use Rattle.kit.specs.Ids.{is_id}
use Rattle.kit.specs.Options.{◌>>=◌}
use Rattle.card_type.specs.declared.card.Card.{Card}
use Rattle.card_type.specs.declared.key.ChatKey.{ChatKey}
use Rattle.card_type.specs.declared.key.ChatKey.TheVariants.{SelfChat, Single, Group, Thread}
use Rattle.card_type.specs.Groups.{is_group}
use Rattle.card_type.specs.Keys.{key_eq}
use Rattle.card_type.specs.KeyTexts.{is_key}
use Rattle.card_type.specs.Kinds.{kind_of, is_content}
use Rattle.card_type.specs.Rules.{is_valid, is_envelope, is_requests, is_shown, keeps_bounds, where_some}
use Rattle.mailbox_model.specs.declared.links.Cites.{Cites}
use Rattle.mailbox_model.specs.Chats.{Known, chat_from, chats, cites, cites_by, direct_chat, handed_on, known_after, known_chat, next_chat, others, own_chat, people}
use Rattle.mailbox_model.specs.Lists.{Bytes, first_some}
use Rattle.mailbox_model.specs.Mailbox.{Entry, Mailbox, IsMailbox, IsEntry}
use Rattle.mailbox_model.specs.Pages.{keys}
use Rattle.mailbox_model.specs.Present.{Mail, contents, mail_by, mail_cmp, mail_of, mails, present, same_id, spot}
use Rattle.mailbox_model.proofs.Elements.{All-append}

abbrev pub IsKey : ChatKey → Type 0
IsKey key = IsTrue (is_key key)

abbrev IsAddr : Bytes → Type 0
IsAddr a = IsTrue (is_addr a)

abbrev IsId : Bytes → Type 0
IsId i = IsTrue (is_id i)

-- ---- what a valid card holds

left : (a b : Bool) → IsTrue (a && b) → IsTrue a
left true b h = refl
left false b h = h

right : (a b : Bool) → IsTrue (a && b) → IsTrue b
right true b h = h
right false b h = absurd (false≢true h)

all_true : {X : Type 0} (p : X → Bool) (xs : List X) → IsTrue (list_all p xs) → AllByRecursion (λ x. IsTrue (p x)) xs
all_true p [] h = tt
all_true p (x ∷ xs) h = (left (p x) (list_all p xs) h, all_true p xs (right (p x) (list_all p xs) h))

where_true : {X : Type 0} (p : X → Bool) (o : Option X) → IsTrue (where_some p o) → IfSome o (λ x. IsTrue (p x))
where_true p None h = tt
where_true p (Some x) h = h

-- what is needed of a card: who its people are, its group and its ids
record IsSound (c : Card) : Type 0 where
  id : IsId c.id
  people : AllByRecursion IsAddr (people c)
  group : IfSome c.group (λ g. IsTrue (is_group g))
  replies : AllByRecursion IsId c.replies
  references : AllByRecursion IsId c.references

sound : (c : Card) → IsTrue (is_valid c) → IsSound c
sound c valid =
    let kept = left _ (is_shown c) valid in
    let requests = right _ (is_requests c) kept in
    let envelope = right (keeps_bounds c) (is_envelope c) (left _ (is_requests c) kept) in
    let replied = left _ (list_all is_id c.references) envelope in
    let copied = left _ (list_all is_id c.replies) replied in
    let sent = left _ (list_all is_addr c.cc) copied in
    let named = left _ (list_all is_addr c.to) sent in
    let written = left _ (is_utf8 c.from_name) named in
    let to = all_true is_addr c.to (right _ (list_all is_addr c.to) sent) in
    let cc = all_true is_addr c.cc (right _ (list_all is_addr c.cc) copied) in record {
      id = left (is_id c.id) (is_addr c.from) written;
      people = (right (is_id c.id) (is_addr c.from) written, All-append IsAddr c.to c.cc to cc);
      group = where_true is_group c.group (grouped c requests);
      replies = all_true is_id c.replies (right _ (list_all is_id c.replies) replied);
      references = all_true is_id c.references (right _ (list_all is_id c.references) envelope);
    }
  where
    grouped : (c : Card) → IsTrue (is_requests c) → IsTrue (where_some is_group c.group)
    grouped c requests = left _ (is_utf8 c.group_name) (left _ (where_some is_addr c.added) (left _ (where_some is_addr c.removed) (left _ (where_some is_id c.edit)
        (left _ (list_all is_id c.deletes) (left _ (nat_lt c.timer (2 ^ 32)) requests)))))

-- ---- the cites of a valid card

record IsCited (t : Cites) : Type 0 where
  own : IfSome t.own IsKey
  root : IsId t.root

direct_key : (xs : List Bytes) → AllByRecursion IsAddr xs → IfSome (direct_chat xs) IsKey
direct_key [] a = refl
direct_key (x ∷ []) a = a.0
direct_key (x ∷ y ∷ more) a = tt

own_key : (me : Bytes) (c : Card) → IsSound c → IfSome (own_chat me c) IsKey
own_key me c k =
    let alone = All-filter IsAddr (λ y. not (bytes_eq me y)) (each_once (people c)) (All-firsts IsAddr bytes_eq (people c) k.people) in
    by c.group k.group (direct_chat (others me c)) (direct_key (others me c) alone)
  where
    by : (g : Option Bytes) → IfSome g (λ g. IsTrue (is_group g)) → (o : Option ChatKey) → IfSome o IsKey → IfSome (option_or (option_map Group g) o) IsKey
    by None h o direct = direct
    by (Some g) h o direct = h

first_id : (ids : List Bytes) (id : Bytes) → AllByRecursion IsId ids → IsId id → IsId (unwrap_or (slice_get ids 0) id)
first_id [] id a own = own
first_id (i ∷ is) id a own = a.0

is_cited : (me : Bytes) (t : Mail) → IsSound t.placed.card → IsCited (cites_by me (spot t.placed) t.placed.card)
is_cited me t k =
    let c = t.placed.card in record {
      own = own_key me c k;
      root = first_id (c.references ++ c.replies) c.id (All-append IsId c.references c.replies k.references k.replies) k.id;
    }

-- ---- the chats of such cites

abbrev AreKeys : Known → Type 0
AreKeys known = AllByRecursion (λ k. IsKey k.1) known

from_key : (t : Cites) (o : Option ChatKey) → IsCited t → IfSome o IsKey → IsKey (chat_from t o)
from_key t o k h = by t.own k.own
  where
    handed : (o : Option ChatKey) → IfSome o IsKey → IsKey (unwrap_or (o >>= handed_on) (Thread t.root))
    handed None h = k.root
    handed (Some SelfChat) h = k.root
    handed (Some (Single a)) h = k.root
    handed (Some (Group g)) h = h
    handed (Some (Thread i)) h = h

    by : (own : Option ChatKey) → IfSome own IsKey → IsKey (unwrap_or own (unwrap_or (o >>= handed_on) (Thread t.root)))
    by None own = handed o h
    by (Some key) own = own

known_key : (known : Known) (id : Bytes) → AreKeys known → IfSome (known_chat known id) IsKey
known_key [] id a = tt
known_key (k ∷ known) id a = by (bytes_eq id k.0) (known_key known id a.1)
  where
    by : (b : Bool) → IfSome (known_chat known id) IsKey → IfSome (option_map (λ k. k.1) (cond b (Some k) (find (λ k. bytes_eq id k.0) known))) IsKey
    by true rest = a.0
    by false rest = rest

first_key : (known : Known) (ids : List Bytes) → AreKeys known → IfSome (first_some (known_chat known) ids) IsKey
first_key known [] a = tt
first_key known (id ∷ ids) a = by (known_chat known id) (known_key known id a) (first_key known ids a)
  where
    by : (o : Option ChatKey) → IfSome o IsKey → IfSome (first_some (known_chat known) ids) IsKey → IfSome (option_or o (first_some (known_chat known) ids)) IsKey
    by None h rest = rest
    by (Some key) h rest = h

known_keys : (known : Known) (ts : List Cites) → AreKeys known → AllByRecursion IsCited ts → AreKeys (known_after known ts)
known_keys known [] a cited = a
known_keys known (t ∷ ts) a cited =
    let own = from_key t (first_some (known_chat known) t.candidates) cited.0 (first_key known t.candidates a) in
    known_keys (known ++ (t.spot.id, next_chat known t) ∷ []) ts (All-append (λ k. IsKey k.1) known _ a (own, tt)) cited.1

-- ---- of a mailbox

each_mail : (now : ℕ) (entries : List Entry) → AllByRecursion (IsEntry now) entries → AllByRecursion (λ t. IsSound t.placed.card) (filter_map mail_of entries)
each_mail now [] a = tt
each_mail now (entry ∷ entries) a = by entry.read a.0.valid (each_mail now entries a.1)
  where
    by : (read : Result Card Fault) → IfOk read (λ card. IsTrue (is_valid card)) → AllByRecursion (λ t. IsSound t.placed.card) (filter_map mail_of entries)
        → AllByRecursion (λ t. IsSound t.placed.card) (cons_option (mail_by entry read) (filter_map mail_of entries))
    by (Ok card) valid rest = (sound card valid, rest)
    by (Err fault) valid rest = rest

map_all : {X Y : Type 0} (P : Y → Type 0) (f : X → Y) (xs : List X) → AllByRecursion (λ x. P (f x)) xs → AllByRecursion P (map f xs)
map_all P f [] a = tt
map_all P f (x ∷ xs) a = (a.0, map_all P f xs a.1)

each : {X : Type 0} (P Q : X → Type 0) → ((x : X) → P x → Q x) → (xs : List X) → AllByRecursion P xs → AllByRecursion Q xs
each P Q f [] a = tt
each P Q f (x ∷ xs) a = (f x a.0, each P Q f xs a.1)

pub are_keys : (m : Mailbox) → IsMailbox m → AllByRecursion IsKey (keys m)
are_keys m k =
    let Sound : Mail → Type 0 = λ t. IsSound t.placed.card in
    let each_sound = All-from_recursion Sound _ (each_mail m.now m.entries k.each) in
    let sorted = recursion_from_All Sound (mails m) (All-sorted_by mail_cmp Sound (filter_map mail_of m.entries) each_sound) in
    let sound = All-filter Sound (λ t. is_content (kind_of t.placed.card)) (present m) (All-firsts Sound same_id (mails m) sorted) in
    let cited = map_all IsCited (λ t. cites_by m.me (spot t.placed) t.placed.card) (contents m) (each Sound _ (is_cited m.me) (contents m) sound) in
    All-firsts IsKey key_eq (map (λ k. k.1) (chats m)) (map_all IsKey (λ k. k.1) (chats m) (known_keys [] (cites m) tt cited))
