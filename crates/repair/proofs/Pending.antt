-- The cards of all chats while some are still as they were: they are few, and one that is settled is no longer pending.
use Rattle.std.proofs.Common.{◌≡◌, refl, sym, ap, ◌∙◌, Bool, true, false, ◌||◌, Option, Some, None, is_some, List, ◌∷◌, ◌++◌, map, arith, length-append}
use Rattle.std.specs.Prelude.{if◌then◌else◌, option_map}
use Rattle.std.specs.Str.{bytes_eq}
use Rattle.std.specs.Cmp.Lexicographic.{bytes_decides}
use Rattle.std.proofs.lemmas.Bool.{or_left, or_right}
use Rattle.std.proofs.lemmas.List.{length-map}
use Rattle.std.proofs.lemmas.List.Folds.{list_any-append}
use Rattle.lists.proofs.Inserts.{list_any-found}
use Rattle.card_type.specs.declared.key.ChatKey.{ChatKey}
use Rattle.card_type.specs.Effects.{is_among}
use Rattle.mailbox_model.specs.Chats.{chat, is_chat}
use Rattle.mailbox_model.specs.Lists.{Bytes}
use Rattle.mailbox_model.specs.Mailbox.{Mailbox, IsMailbox}
use Rattle.mailbox_model.specs.Present.{Mail, has_id, contents}
use Rattle.mailbox_model.specs.States.{Shown, shown_as}
use Rattle.mailbox_model.proofs.ChatLaws.{same_bytes}
use Rattle.mailbox_model.proofs.CountLaws.{few_contents}
use Rattle.mailbox_model.proofs.MailLaws.{bytes_turn}
use Rattle.chat_states.specs.Families.{Family}
use Rattle.indexes.proofs.PresentAt.{list_any-map}
use Rattle.repair.specs.Cards.{card_in, content_at, family_between}
use Rattle.repair.specs.Places.{AreSmall, with_id}

-- ---- no chat has too many

ids_of : Mailbox → List Bytes
ids_of m = map (λ t. t.placed.card.id) (contents m)

its_id : (m : Mailbox) (key : ChatKey) (id : Bytes) → is_some (card_in m key id) ≡ true → is_among (ids_of m) id ≡ true
unfolding ids_of
its_id m key id h =
    list_any-map (λ t. t.placed.card.id) (bytes_eq id) (contents m)
    ∙ list_any-found (has_id id) (contents m)
    ∙ by (is_chat key (chat m id)) (content_at m id) h
  where
    by : (b : Bool) (o : Option Mail) → is_some (if b then option_map (shown_as m) o else None) ≡ true → is_some o ≡ true
    by true None h = cc
    by true (Some t) h = refl
    by false o h = cc

pub few_between : (m n : Mailbox) → IsMailbox m → IsMailbox n → (pending : List Bytes) → AreSmall (family_between m n pending)
unfolding ids_of
few_between m n before after pending key = record {
  ids = ids_of m ++ ids_of n;
  few =
      omega (
        arith,
        length-append (ids_of m) (ids_of n),
        length-map (contents m) (λ t. t.placed.card.id),
        length-map (contents n) (λ t. t.placed.card.id),
        few_contents m before,
        few_contents n after,
      );
  all = λ id h. list_any-append (bytes_eq id) (ids_of m) (ids_of n) ∙ by id (is_among pending id) h;
}
  where
    by : (id : Bytes) (b : Bool) → is_some (if b then card_in m key id else card_in n key id) ≡ true
        → (is_among (ids_of m) id || is_among (ids_of n) id) ≡ true
    by id true h = or_left (is_among (ids_of m) id) (is_among (ids_of n) id) (its_id m key id h)
    by id false h = or_right (is_among (ids_of m) id) (is_among (ids_of n) id) (its_id n key id h)

-- without those with one id there are no more
pub few_others : (id : Bytes) (family : Family) → AreSmall family → AreSmall (with_id id (λ k. None) family)
few_others id family small key =
    record { ids = (small key).ids; few = (small key).few; all = λ i h. (small key).all i (by i (bytes_eq id i) h) }
  where
    by : (i : Bytes) (b : Bool) → is_some (if b then None else family key i) ≡ true → is_some (family key i) ≡ true
    by i true h = cc
    by i false h = h

-- ---- with the next one pending, and with it settled

module _ (m n : Mailbox) (id : Bytes) (pending : List Bytes) where
  pub as_before : (key : ChatKey) → family_between m n (id ∷ pending) key id ≡ card_in m key id
  as_before key = ap (λ b. if b || is_among pending id then card_in m key id else card_in n key id) (same_bytes id)

  pub settled : is_among pending id ≡ false → with_id id (λ k. card_in n k id) (family_between m n (id ∷ pending)) ≡ family_between m n pending
  settled new = λ i k j. each k j (bytes_eq id j) refl i
    where
      each : (k : ChatKey) (j : Bytes) (b : Bool) → bytes_eq id j ≡ b
          → (if b then card_in n k id else family_between m n (id ∷ pending) k j) ≡ family_between m n pending k j
      each k j true e =
          let same : id ≡ j = (bytes_decides id j).0 e in
          sym (ap (λ c. if c then card_in m k id else card_in n k id) new) ∙ ap (family_between m n pending k) same
      each k j false e =
          ap (λ b. if b || is_among pending j then card_in m k j else card_in n k j) (bytes_turn j id ∙ e)

-- what takes the place of another with its id
pub twice : (id : Bytes) (first second : ChatKey → Option Shown) (family : Family) → with_id id second (with_id id first family) ≡ with_id id second family
twice id first second family = λ i k j. each k j (bytes_eq id j) i
  where
    each : (k : ChatKey) (j : Bytes) (b : Bool) → (if b then second k else if b then first k else family k j) ≡ (if b then second k else family k j)
    each k j true = refl
    each k j false = refl
