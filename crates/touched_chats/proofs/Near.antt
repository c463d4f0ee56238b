-- A mail that is not near a chat names none of its cards.
use Rattle.std.proofs.Common.{◌≡◌, refl, ◌∙◌, subst, Bool, true, false, ◌||◌, List, [], ◌∷◌}
use Rattle.std.specs.Prelude.{filter}
use Rattle.std.specs.List.{list_any, AllByRecursion}
use Rattle.std.specs.Str.{bytes_eq}
use Rattle.std.specs.Cmp.Lexicographic.{bytes_decides}
use Rattle.std.proofs.lemmas.Bool.{both_ways, or_parts}
use Rattle.std.proofs.lemmas.List.Elements.{filter_agree}
use Rattle.card_type.specs.declared.key.ChatKey.{ChatKey}
use Rattle.card_type.specs.Effects.{is_among, names}
use Rattle.card_type.specs.Kinds.{kind_of, is_content}
use Rattle.mailbox_model.specs.Lists.{Bytes}
use Rattle.mailbox_model.specs.Mailbox.{Mailbox}
use Rattle.mailbox_model.specs.Present.{Mail, contents}
use Rattle.mailbox_model.specs.Chats.{chat, is_chat, chat_mails}
use Rattle.touched_chats.specs.Suspects.{is_near}
use Rattle.touched_chats.proofs.Lists.{All-passing}
use Rattle.touched_chats.proofs.Moving.{Unmoved}

abbrev pub is_content_mail : Mail → Bool
is_content_mail t = is_content (kind_of t.placed.card)

abbrev pub is_in : Mailbox → ChatKey → Mail → Bool
is_in m key t = is_chat key (chat m t.placed.card.id)

-- by the chats before as by those after, where no id moved
pub far_before : (m n : Mailbox) (key : ChatKey) → Unmoved m n key → (t : Mail) → is_near n key t ≡ false → is_near m key t ≡ false
far_before m n key unmoved t h = (λ i. list_any (λ id. unmoved id i) (t.placed.card.id ∷ names t.placed.card)) ∙ h

-- an id that passes is not among those of which none does
not_among : (p : Bytes → Bool) (ids : List Bytes) (id : Bytes) → list_any p ids ≡ false → p id ≡ true → is_among ids id ≡ false
not_among p [] id h passes = refl
not_among p (x ∷ ids) id h passes = by (bytes_eq id x) refl (not_among p ids id (or_parts (p x) (list_any p ids) h).1 passes)
  where
    by : (b : Bool) → bytes_eq id x ≡ b → is_among ids id ≡ false → (b || is_among ids id) ≡ false
    by true e rest =
        absurd (both_ways (p x) (or_parts (p x) (list_any p ids) h).0 (subst (λ y. p y ≡ true) ((bytes_decides id x).0 e) passes))
    by false e rest = rest

module _ (m : Mailbox) (key : ChatKey) (x : Mail) (far : is_near m key x ≡ false) where
  parts : (is_in m key x ≡ false) × (list_any (λ id. is_chat key (chat m id)) (names x.placed.card) ≡ false)
  parts = or_parts (is_in m key x) (list_any (λ id. is_chat key (chat m id)) (names x.placed.card)) far

  pub far_apart : is_in m key x ≡ false
  far_apart = parts.0

  pub far_unnamed : (t : Mail) → is_in m key t ≡ true → is_among (names x.placed.card) t.placed.card.id ≡ false
  far_unnamed t h = not_among (λ id. is_chat key (chat m id)) (names x.placed.card) t.placed.card.id parts.1 h

-- ---- the mails of a chat

pub mails_stay : (m n : Mailbox) (key : ChatKey) → Unmoved m n key
    → filter (is_in m key) (contents m) ≡ filter (is_in m key) (contents n) → chat_mails m key ≡ chat_mails n key
mails_stay m n key unmoved same = same ∙ filter_agree (is_in m key) (is_in n key) (λ t. unmoved t.placed.card.id) (contents n)

pub each_in : (P : Mail → Type 0) (m : Mailbox) (key : ChatKey) → ((t : Mail) → is_in m key t ≡ true → P t)
    → AllByRecursion P (chat_mails m key)
each_in P m key h = All-passing P (is_in m key) (contents m) h
