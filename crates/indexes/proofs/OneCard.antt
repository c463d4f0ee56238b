-- The links, the effects and the contacts of mails with one more, or without one.
use Rattle.std.proofs.Common.{◌≡◌, sym, ap, ◌∙◌, subst, ◌+◌, ◌-◌, Bool, true, false, List}
use Rattle.std.specs.Prelude.{if◌then◌else◌}
use Rattle.std.specs.List.{IsDistinct}
use Rattle.std.specs.List.Sorted.{IsStrictlySortedBy}
use Rattle.lists.specs.Sorted.{insert_by}
use Rattle.card_type.specs.declared.card.Card.{Card}
use Rattle.card_type.specs.declared.spot.Spot.{Spot}
use Rattle.card_type.specs.Kinds.{kind_of, is_content}
use Rattle.card_type.specs.Records.{capped}
use Rattle.mailbox_model.specs.declared.links.Cites.{Cites}
use Rattle.mailbox_model.specs.Lists.{Bytes}
use Rattle.mailbox_model.specs.Present.{Mail, mail_cmp, same_id, spot}
use Rattle.mailbox_model.specs.Chats.{cites_by, cites_cmp}
use Rattle.mailbox_model.specs.Turns.{with_mail}
use Rattle.mailbox_model.proofs.OneMail.{cards_of}
use Rattle.thread_links.specs.Linked.{cites_among, without_id}
use Rattle.thread_links.proofs.MailLaws.{cites_added, cites_removed}
use Rattle.effects.specs.Named.{named, named_with, named_without, StandsFor as AreEffects}
use Rattle.effects.proofs.Changes.{added as effects_added, removed as effects_removed}
use Rattle.contacts.specs.Kept.{Kept, mentions_at, names_at, names_with, names_without, times_in, StandsFor as AreContacts}
use Rattle.contacts.proofs.Changes.{added as contacts_added, removed as contacts_removed}
use Rattle.indexes.specs.Kept.{AreCounted}

-- a card at a place is that of a mail among others
pub record IsNext (place : Spot) (card : Card) (t : Mail) (ts : List Mail) : Type 0 where
  pub at : spot t.placed ≡ place
  pub same : t.placed.card ≡ card
  pub order : IsStrictlySortedBy mail_cmp (with_mail t ts)

module _ (place : Spot) (card : Card) (t : Mail) (ts : List Mail) (next : IsNext place card t ts) where
  -- what is said of the place and the card is said of those of the mail
  of_mail : (P : Spot → Card → Type 0) → P place card → P (spot t.placed) t.placed.card
  of_mail P p = subst (λ s. P s t.placed.card) (sym next.at) (subst (P place) (sym next.same) p)

  -- ---- with it

  pub effects_more : (before after : List (Bytes × List Spot)) → AreEffects before (cards_of ts)
      → ((id : Bytes) → named after id ≡ named_with place card id (named before id))
      → AreEffects after (cards_of (with_mail t ts))
  effects_more before after stands is =
      effects_added before after t ts next.order stands
      (of_mail (λ s e. (id : Bytes) → named after id ≡ named_with s e id (named before id)) is)

  pub contacts_more : (before after : Kept) → AreCounted (with_mail t ts) → AreContacts before (cards_of ts)
      → ((addr : Bytes) → capped (mentions_at after.mentions addr) ≡ capped (mentions_at before.mentions addr + times_in card addr))
      → ((addr : Bytes) → names_at after.names addr ≡ names_with place card addr (names_at before.names addr))
      → AreContacts after (cards_of (with_mail t ts))
  contacts_more before after few stands mentions names =
      contacts_added before after t ts next.order few stands
      (of_mail (λ s e. (addr : Bytes) → capped (mentions_at after.mentions addr) ≡ capped (mentions_at before.mentions addr + times_in e addr)) mentions)
      (of_mail (λ s e. (addr : Bytes) → names_at after.names addr ≡ names_with s e addr (names_at before.names addr)) names)

  cites_with : (me : Bytes) (b : Bool) → is_content (kind_of card) ≡ b
      → cites_among me (with_mail t ts) ≡ (if b then insert_by cites_cmp (cites_by me place card) (cites_among me ts) else cites_among me ts)
  cites_with me b is =
      cites_added me t ts next.order
      ∙ ap (λ c. if is_content (kind_of c) then insert_by cites_cmp (cites_by me (spot t.placed) c) (cites_among me ts) else cites_among me ts) next.same
      ∙ ap (λ s. if is_content (kind_of card) then insert_by cites_cmp (cites_by me s card) (cites_among me ts) else cites_among me ts) next.at
      ∙ ap (λ b. if b then insert_by cites_cmp (cites_by me place card) (cites_among me ts) else cites_among me ts) is

  pub content_more : (me : Bytes) (cites : Cites) (before after : List Cites) → is_content (kind_of card) ≡ true
      → cites ≡ cites_by me place card → before ≡ cites_among me ts → after ≡ insert_by cites_cmp cites before
      → after ≡ cites_among me (with_mail t ts)
  content_more me cites before after is made same h =
      h ∙ ap (insert_by cites_cmp cites) same ∙ ap (λ x. insert_by cites_cmp x (cites_among me ts)) made ∙ sym (cites_with me true is)

  pub other_stays : (me : Bytes) (before : List Cites) → is_content (kind_of card) ≡ false
      → before ≡ cites_among me ts → before ≡ cites_among me (with_mail t ts)
  other_stays me before is same = same ∙ sym (cites_with me false is)

  -- ---- without it

  pub effects_less : (before after : List (Bytes × List Spot)) → AreEffects before (cards_of (with_mail t ts))
      → ((id : Bytes) → named after id ≡ named_without place card id (named before id))
      → AreEffects after (cards_of ts)
  effects_less before after stands is =
      effects_removed before after t ts next.order stands
      (of_mail (λ s e. (id : Bytes) → named after id ≡ named_without s e id (named before id)) is)

  pub contacts_less : (before after : Kept) → AreContacts before (cards_of (with_mail t ts))
      → ((addr : Bytes) → mentions_at after.mentions addr ≡ mentions_at before.mentions addr - times_in card addr)
      → ((addr : Bytes) → names_at after.names addr ≡ names_without place card addr (names_at before.names addr))
      → AreContacts after (cards_of ts)
  contacts_less before after stands mentions names =
      contacts_removed before after t ts next.order stands
      (of_mail (λ s e. (addr : Bytes) → mentions_at after.mentions addr ≡ mentions_at before.mentions addr - times_in e addr) mentions)
      (of_mail (λ s e. (addr : Bytes) → names_at after.names addr ≡ names_without s e addr (names_at before.names addr)) names)

  pub content_less : (me : Bytes) (before after : List Cites) → IsDistinct same_id (with_mail t ts)
      → before ≡ cites_among me (with_mail t ts) → after ≡ without_id place.id before → after ≡ cites_among me ts
  content_less me before after once same h =
      h ∙ ap (without_id place.id) same ∙ ap (λ s. without_id s.id (cites_among me (with_mail t ts))) (sym next.at) ∙ cites_removed me t ts next.order once

  pub other_left : (me : Bytes) (before : List Cites) → is_content (kind_of card) ≡ false
      → before ≡ cites_among me (with_mail t ts) → before ≡ cites_among me ts
  other_left me before is same = same ∙ cites_with me false is
