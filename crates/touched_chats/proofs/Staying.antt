-- A chat that is not suspect stays.
use Rattle.std.proofs.Common.{◌≡◌, refl, sym, ap, ◌∙◌, subst, ◌≤◌, Bool, true, false, not, ◌||◌, ◌&&◌, Option, Some, None, List, [], ◌∷◌, arith, ◌⊎◌, inl, inr}
use Rattle.std.specs.Prelude.{IfSome}
use Rattle.std.specs.List.{AllByRecursion}
use Rattle.std.specs.Str.{bytes_eq}
use Rattle.std.specs.Cmp.Lexicographic.{bytes_decides}
use Rattle.std.proofs.lemmas.Bool.{or_parts, or_left, and_left, both_ways}
use Rattle.card_type.specs.declared.key.ChatKey.{ChatKey}
use Rattle.card_type.specs.declared.key.ChatKey.TheVariants.{Single}
use Rattle.card_type.specs.Keys.{key_eq}
use Rattle.card_type.specs.Kinds.{has_some}
use Rattle.mailbox_model.specs.declared.turn.Turn.{Turn}
use Rattle.mailbox_model.specs.declared.turn.Turn.TheVariants.{Nothing, Add, Remove, Replace, Marked, Moved}
use Rattle.mailbox_model.specs.Lists.{Bytes}
use Rattle.mailbox_model.specs.declared.change.Change.{Change}
use Rattle.mailbox_model.specs.declared.change.Change.TheVariants.{Arrive, ArriveFault, Expunge, Seen, At}
use Rattle.mailbox_model.specs.Mailbox.{Mailbox, after, IsMailbox}
use Rattle.mailbox_model.specs.Present.{Mail, present}
use Rattle.mailbox_model.specs.Turns.{is_mail, turn, IsTurn}
use Rattle.mailbox_model.specs.Chats.{cites}
use Rattle.mailbox_model.specs.Contacts.{gives_name, contact_name}
use Rattle.mailbox_model.specs.Frames.{NameStays, Stays}
use Rattle.mailbox_model.proofs.ListLaws.{key_self}
use Rattle.mailbox_model.proofs.TurnLaws.{turn_law}
use Rattle.touched_chats.specs.Suspects.{is_moved, is_near, is_turned, is_renamed, has_due, is_suspect}
use Rattle.touched_chats.proofs.Lists.{each_not}
use Rattle.touched_chats.proofs.Turned.{is_of, first_uid, second_uid, passing, none_turned, not_left, not_came}
use Rattle.touched_chats.proofs.Moving.{Unmoved, unmoved_chat}
use Rattle.touched_chats.proofs.Near.{is_in, far_before, far_apart}
use Rattle.touched_chats.proofs.Beside.{with_maybe, each_of, beside_name, beside_stays}
use Rattle.touched_chats.proofs.Marking.{marked_name, marked_stays}
use Rattle.touched_chats.proofs.Clock.{clock_stays}

-- ---- the cards of a chat

module _ (m n : Mailbox) (key : ChatKey) (me : m.me ≡ n.me) (unmoved : Unmoved m n key) where
  far : (t : Mail) → is_near n key t ≡ false → is_near m key t ≡ false
  far = far_before m n key unmoved

  by_turn : (turn : Turn) → IsTurn m n turn → is_turned m n turn key ≡ false → has_due m n.now key ≡ false → Stays m n key
  by_turn Nothing is none due =
      beside_stays m n None None (present m) refl is.present key me (sym is.clock) unmoved tt tt
  by_turn (Add at) is none due =
      let t = is.present.0 in
      let new = not_came m n (Add at) (is_near n key) none t (present m) (first_uid at.uid [] t (ap (λ s. s.uid) is.present.1)) is.present.2 in
      beside_stays m n None (Some t) (present m) refl is.present.2 key me (sym is.clock) unmoved tt (far t new)
  by_turn (Remove at) is none due =
      let t = is.present.0 in
      let old = not_left m n (Remove at) (is_near n key) none t (present n) (first_uid at.uid [] t (ap (λ s. s.uid) is.present.1)) is.present.2 in
      beside_stays m n (Some t) None (present n) is.present.2 refl key me (sym is.clock) unmoved (far t old) tt
  by_turn (Replace from to) is none due =
      let t = is.present.0 in
      let u = is.present.1 in
      let both = is.present.4 in
      let old = not_left m n (Replace from to) (is_near n key) none t both.others (first_uid from.uid (to.uid ∷ []) t (ap (λ s. s.uid) is.present.2)) both.first in
      let new = not_came m n (Replace from to) (is_near n key) none u both.others (second_uid from.uid to.uid u (ap (λ s. s.uid) is.present.3)) both.second in
      beside_stays m n (Some t) (Some u) both.others both.first both.second key me (sym is.clock) unmoved (far t old) (far u new)
  by_turn (Marked uid) is none due =
      marked_stays uid m.now m n is.present.4 key me (sym is.clock) (apart (present m) (each_not (λ t. is_of (Marked uid) t && is_near n key t) (present m) (none_turned m n (Marked uid) (is_near n key) none).0))
    where
      apart : (ts : List Mail) → AllByRecursion (λ t. (is_of (Marked uid) t && is_near n key t) ≡ false) ts
          → AllByRecursion (λ t. is_mail uid t ≡ true → is_in m key t ≡ false) ts
      apart [] a = tt
      apart (t ∷ ts) a = (λ e. far_apart m key t (far t (passing (is_of (Marked uid) t) (is_near n key t) (or_left (is_mail uid t) false e) a.0)), apart ts a.1)
  by_turn (Moved moment) is none due =
      let later : m.now ≤ n.now = let lt = is.clock.0 in let e = is.clock.1 in omega (arith, lt, e) in
      clock_stays m n me (sym is.present) later key due

-- ---- the name of the only other

-- a mail of his that does not rename him, or one that gives him no name
not_renaming : (m n : Mailbox) (addr : Bytes) (t : Mail)
    → (not (bytes_eq (contact_name m t.placed.card.from) (contact_name n t.placed.card.from)) && key_eq (Single addr) (Single t.placed.card.from)) ≡ false
    → (contact_name m addr ≡ contact_name n addr) ⊎ (gives_name addr t.placed.card ≡ false)
not_renaming m n addr t h = by (bytes_eq t.placed.card.from addr) refl
  where
    same : (b c : Bool) → c ≡ true → (not b && c) ≡ false → b ≡ true
    same true c e k = refl
    same false c e k = absurd (both_ways c k e)

    by : (b : Bool) → bytes_eq t.placed.card.from addr ≡ b → (contact_name m addr ≡ contact_name n addr) ⊎ (gives_name addr t.placed.card ≡ false)
    by false e = inr (and_left (bytes_eq t.placed.card.from addr) (has_some t.placed.card.from_name) e)
    by true e =
        let from : t.placed.card.from ≡ addr = (bytes_decides t.placed.card.from addr).0 e in
        let key : key_eq (Single addr) (Single t.placed.card.from) ≡ true = ap (λ a. key_eq (Single addr) (Single a)) from ∙ key_self (Single addr) in
        let names = same (bytes_eq (contact_name m t.placed.card.from) (contact_name n t.placed.card.from)) (key_eq (Single addr) (Single t.placed.card.from)) key h in
        inl (subst (λ a. contact_name m a ≡ contact_name n a) from ((bytes_decides (contact_name m t.placed.card.from) (contact_name n t.placed.card.from)).0 names))

-- what follows from one of two, or else the other holds of both
either : {E : Type 0} (P : Mail → Type 0) (a b : Option Mail) → (IfSome a P → IfSome b P → E)
    → IfSome a (λ t. E ⊎ P t) → IfSome b (λ t. E ⊎ P t) → E
either P None None f g h = f tt tt
either P None (Some u) f g (inl e) = e
either P None (Some u) f g (inr p) = f tt p
either P (Some t) None f (inl e) h = e
either P (Some t) None f (inr p) h = f p tt
either P (Some t) (Some u) f (inl e) h = e
either P (Some t) (Some u) f (inr p) (inl e) = e
either P (Some t) (Some u) f (inr p) (inr q) = f p q

module _ (m n : Mailbox) (addr : Bytes) where
  abbrev renames : Mail → Bool
  renames t = not (bytes_eq (contact_name m t.placed.card.from) (contact_name n t.placed.card.from)) && key_eq (Single addr) (Single t.placed.card.from)

  beside : (a b : Option Mail) (others : List Mail) → present m ≡ with_maybe a others → present n ≡ with_maybe b others
      → IfSome a (λ t. renames t ≡ false) → IfSome b (λ t. renames t ≡ false) → contact_name m addr ≡ contact_name n addr
  beside a b others before after f g =
      either (λ t. gives_name addr t.placed.card ≡ false) a b (beside_name m n a b others before after addr)
      (each_of (not_renaming m n addr) a f) (each_of (not_renaming m n addr) b g)

  name_by_turn : (turn : Turn) → IsTurn m n turn → is_renamed m n turn (Single addr) ≡ false → contact_name m addr ≡ contact_name n addr
  name_by_turn Nothing is none = beside None None (present m) refl is.present tt tt
  name_by_turn (Add at) is none =
      let t = is.present.0 in
      let new = not_came m n (Add at) renames none t (present m) (first_uid at.uid [] t (ap (λ s. s.uid) is.present.1)) is.present.2 in
      beside None (Some t) (present m) refl is.present.2 tt new
  name_by_turn (Remove at) is none =
      let t = is.present.0 in
      let old = not_left m n (Remove at) renames none t (present n) (first_uid at.uid [] t (ap (λ s. s.uid) is.present.1)) is.present.2 in
      beside (Some t) None (present n) is.present.2 refl old tt
  name_by_turn (Replace from to) is none =
      let t = is.present.0 in
      let u = is.present.1 in
      let both = is.present.4 in
      let old = not_left m n (Replace from to) renames none t both.others (first_uid from.uid (to.uid ∷ []) t (ap (λ s. s.uid) is.present.2)) both.first in
      let new = not_came m n (Replace from to) renames none u both.others (second_uid from.uid to.uid u (ap (λ s. s.uid) is.present.3)) both.second in
      beside (Some t) (Some u) both.others both.first both.second old new
  name_by_turn (Marked uid) is none = marked_name uid m.now m n is.present.4 addr
  name_by_turn (Moved moment) is none = beside None None (present m) refl is.present tt tt

-- ---- by all of these

-- none of the four reasons
record IsFree (m n : Mailbox) (turn : Turn) (key : ChatKey) : Type 0 where
  pub moved : is_moved (cites m) (cites n) key ≡ false
  pub turned : is_turned m n turn key ≡ false
  pub renamed : is_renamed m n turn key ≡ false
  pub due : has_due m n.now key ≡ false

free_of : (m n : Mailbox) (turn : Turn) (key : ChatKey) → is_suspect m n turn key ≡ false → IsFree m n turn key
free_of m n turn key h =
    let moves = or_parts (is_moved (cites m) (cites n) key) (is_turned m n turn key || (is_renamed m n turn key || has_due m n.now key)) h in
    let mails = or_parts (is_turned m n turn key) (is_renamed m n turn key || has_due m n.now key) moves.1 in
    let rest = or_parts (is_renamed m n turn key) (has_due m n.now key) mails.1 in
    record { moved = moves.0; turned = mails.0; renamed = rest.0; due = rest.1 }

pub suspect_mails : (m n : Mailbox) (turn : Turn) (key : ChatKey) → is_suspect m n turn key ≡ false → is_turned m n turn key ≡ false
suspect_mails m n turn key h = (free_of m n turn key h).turned

pub turn_stays : (m n : Mailbox) (turn : Turn) (key : ChatKey) → m.me ≡ n.me → IsTurn m n turn → is_suspect m n turn key ≡ false → Stays m n key
turn_stays m n turn key me is h =
    let free = free_of m n turn key h in
    by_turn m n key me (unmoved_chat m n key free.moved) turn is free.turned free.due

pub turn_name_stays : (m n : Mailbox) (turn : Turn) (key : ChatKey) → IsTurn m n turn → is_suspect m n turn key ≡ false → NameStays m n key
turn_name_stays m n turn key is h addr e =
    name_by_turn m n addr turn is (subst (λ k. is_renamed m n turn k ≡ false) e (free_of m n turn key h).renamed)

-- ---- of a change

pub same_me : (m : Mailbox) (change : Change) → m.me ≡ (after m change).me
same_me m (Arrive card) = refl
same_me m (ArriveFault fault) = refl
same_me m (Expunge uid) = refl
same_me m (Seen uid) = refl
same_me m (At moment) = refl

pub change_stays : (m : Mailbox) (change : Change) (key : ChatKey) → IsMailbox m
    → is_suspect m (after m change) (turn m change) key ≡ false → Stays m (after m change) key × NameStays m (after m change) key
change_stays m change key k h =
    let is = turn_law m change k.uids in
    (turn_stays m (after m change) (turn m change) key (same_me m change) is h, turn_name_stays m (after m change) (turn m change) key is h)
