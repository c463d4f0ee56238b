-- A chat whose only other is renamed has another page.
use Rattle.std.proofs.Common.{◌≡◌, ◌≢◌, sym, ap, ◌∙◌, subst, Bool, true, false, not, ◌||◌, ◌&&◌, Option, Some, None, is_some, Result, Ok, Err, List, [], ◌∷◌, ◌++◌, arith, ⊎_elim}
use Rattle.std.specs.Prelude.{if◌then◌else◌, filter, IfSome, IfOk, IsTrue, length, nat_le, option_map, unwrap_or}
use Rattle.std.specs.List.{list_all, AllByRecursion}
use Rattle.std.specs.Option.{option_map_or, option_or}
use Rattle.std.specs.Str.{bytes_eq}
use Rattle.std.specs.Cmp.Lexicographic.{bytes_decides}
use Rattle.std.proofs.lemmas.Bool.{both_ways, and_parts, not-true, leb-true, lt-ltb, false≢true, true≢false}
use Rattle.kit.specs.Addresses.{is_addr, is_addr_byte, has_inner_at, has_inner_colons}
use Rattle.kit.specs.Ids.{is_id}
use Rattle.card_type.specs.declared.card.Card.{Card}
use Rattle.card_type.specs.declared.key.ChatKey.{ChatKey}
use Rattle.card_type.specs.declared.key.ChatKey.TheVariants.{Single}
use Rattle.card_type.specs.Keys.{key_eq}
use Rattle.card_type.specs.KeyTexts.{key_text}
use Rattle.card_type.specs.Kinds.{has_some}
use Rattle.card_type.specs.Rules.{is_valid, is_envelope, is_requests, is_shown, keeps_bounds}
use Rattle.mailbox_model.specs.declared.change.Fault.{Fault}
use Rattle.mailbox_model.specs.declared.page.ChatPage.{ChatPage}
use Rattle.mailbox_model.specs.declared.turn.Turn.{Turn}
use Rattle.mailbox_model.specs.Lists.{Bytes, last_of}
use Rattle.mailbox_model.specs.Mailbox.{Mailbox, Entry, IsEntry, IsMailbox}
use Rattle.mailbox_model.specs.Present.{Mail, mail_by, mail_of, present}
use Rattle.mailbox_model.specs.Contacts.{all_cards, gives_name, contact_name}
use Rattle.mailbox_model.specs.Names.{name}
use Rattle.mailbox_model.specs.Pages.{page, page_of}
use Rattle.mailbox_model.proofs.ListLaws.{key_same}
use Rattle.mailbox_model.proofs.UidLaws.{present_each}
use Rattle.touched_chats.specs.Touched.{has_chat}
use Rattle.touched_chats.specs.Suspects.{is_renamed, turned}
use Rattle.touched_chats.proofs.Among.{Among, any_found, among_all, among_either, passing_among}
use Rattle.touched_chats.proofs.Lists.{All-passing}
use Rattle.touched_chats.proofs.Turned.{is_of}

-- ---- who wrote a mail has an address

left : (a b : Bool) → (a && b) ≡ true → a ≡ true
left a b h = (and_parts a b h).0

right : (a b : Bool) → (a && b) ≡ true → b ≡ true
right a b h = (and_parts a b h).1

from_address : (c : Card) → is_valid c ≡ true → is_addr c.from ≡ true
from_address c valid =
    let requests = left _ (is_shown c) valid in
    let envelope = right (keeps_bounds c) (is_envelope c) (left _ (is_requests c) requests) in
    let replied = left _ (list_all is_id c.references) envelope in
    let copied = left _ (list_all is_id c.replies) replied in
    let sent = left _ (list_all is_addr c.cc) copied in
    let named = left _ (list_all is_addr c.to) sent in
    right (is_id c.id) (is_addr c.from) (left _ _ named)

some_address : (a : Bytes) → is_addr a ≡ true → has_some a ≡ true
some_address a h =
    let long = leb-true 3 (length a) (left (nat_le 3 (length a)) _ (left _ (list_all is_addr_byte a) (left _ (has_inner_at a) (left _ (has_inner_colons false a) h)))) in
    lt-ltb 0 (length a) (omega (arith, long))

each_from : (m : Mailbox) → IsMailbox m → AllByRecursion (λ t. has_some t.placed.card.from ≡ true) (present m)
each_from m k = present_each (λ t. has_some t.placed.card.from ≡ true) m (each m.entries k.each)
  where
    each : (entries : List Entry) → AllByRecursion (IsEntry m.now) entries → AllByRecursion (λ e. IfSome (mail_of e) (λ t. has_some t.placed.card.from ≡ true)) entries
    each [] a = tt
    each (e ∷ es) a = (by e.read a.0.valid, each es a.1)
      where
        by : (read : Result Card Fault) → IfOk read (λ card. IsTrue (is_valid card)) → IfSome (mail_by e read) (λ t. has_some t.placed.card.from ≡ true)
        by (Ok card) valid = some_address card.from (from_address card valid)
        by (Err fault) valid = tt

-- ---- so the name of a chat with one other is that of the contact

last_all : {X : Type 0} (P : X → Type 0) (xs : List X) → AllByRecursion P xs → IfSome (last_of xs) P
last_all P [] a = tt
last_all {X} P (x ∷ xs) a = by (last_of xs) (last_all P xs a.1)
  where
    by : (o : Option X) → IfSome o P → IfSome (option_or o (Some x)) P
    by None h = a.0
    by (Some y) h = h

contact_some : (m : Mailbox) (addr : Bytes) → has_some addr ≡ true → has_some (contact_name m addr) ≡ true
contact_some m addr some = by (last_of given) (last_all (λ c. has_some c.from_name ≡ true) given (All-passing (λ c. has_some c.from_name ≡ true) (gives_name addr) (all_cards m) (λ c h. right (bytes_eq c.from addr) (has_some c.from_name) h)))
  where
    given : List Card
    given = filter (gives_name addr) (all_cards m)

    by : (o : Option Card) → IfSome o (λ c. has_some c.from_name ≡ true) → has_some (unwrap_or (option_map (λ c. c.from_name) o) addr) ≡ true
    by None h = some
    by (Some c) h = h

name_is : (m : Mailbox) (addr : Bytes) → has_some addr ≡ true → name m (Single addr) ≡ contact_name m addr
name_is m addr some = ap (λ b. if b then contact_name m addr else key_text (Single addr)) (contact_some m addr some)

-- ---- pages with different names differ

one_name : (b c : Bool) (p q : ChatPage) → (if b then Some p else None) ≡ (if c then Some q else None) → (b || c) ≡ true → p.name ≡ q.name
one_name true true p q e h = ap (λ o. option_map_or (λ (page : ChatPage). page.name) o []) e
one_name true false p q e h = absurd (true≢false (ap is_some e))
one_name false true p q e h = absurd (false≢true (ap is_some e))
one_name false false p q e h = absurd (false≢true h)

other_name : (m n : Mailbox) (addr : Bytes) → has_some addr ≡ true → contact_name m addr ≢ contact_name n addr
    → (has_chat m (Single addr) || has_chat n (Single addr)) ≡ true → page m (Single addr) ≢ page n (Single addr)
other_name m n addr some differ there e =
    differ (sym (name_is m addr some)
    ∙ one_name (has_chat m (Single addr)) (has_chat n (Single addr)) (page_of m (Single addr)) (page_of n (Single addr)) e there
    ∙ name_is n addr some)

pub renamed_touched : (m n : Mailbox) (turn : Turn) (key : ChatKey) → IsMailbox m → IsMailbox n → is_renamed m n turn key ≡ true
    → (has_chat m key || has_chat n key) ≡ true → page m key ≢ page n key
renamed_touched m n turn key k l h there =
    let f = any_found (λ (t : Mail). not (bytes_eq (contact_name m t.placed.card.from) (contact_name n t.placed.card.from)) && key_eq key (Single t.placed.card.from)) (turned m n turn) h in
    by f.it f.among f.passes
  where
    by : (t : Mail) → Among t (turned m n turn)
        → (not (bytes_eq (contact_name m t.placed.card.from) (contact_name n t.placed.card.from)) && key_eq key (Single t.placed.card.from)) ≡ true
        → page m key ≢ page n key
    by t among passes =
        let from = t.placed.card.from in
        let same = bytes_eq (contact_name m from) (contact_name n from) in
        let parts = and_parts (not same) (key_eq key (Single from)) passes in
        let is : Single from ≡ key = sym (key_same key (Single from) parts.1) in
        let some : has_some from ≡ true = ⊎_elim (among_all (λ (u : Mail). has_some u.placed.card.from ≡ true) t (present m) (each_from m k)) (among_all (λ (u : Mail). has_some u.placed.card.from ≡ true) t (present n) (each_from n l)) (among_either t (present m) (present n) (passing_among (is_of turn) t (present m ++ present n) among).0) in
        let apart : contact_name m from ≢ contact_name n from = λ e. both_ways same (not-true same parts.0) ((bytes_decides (contact_name m from) (contact_name n from)).1 e) in
        subst (λ j. page m j ≢ page n j) is (other_name m n from some apart (subst (λ j. (has_chat m j || has_chat n j) ≡ true) (sym is) there))
