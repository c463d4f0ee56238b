-- The chats of the suspect cards, and those of renamed contacts that are there, are the touched ones.
use Rattle.std.proofs.Common.{◌≡◌, refl, sym, ap, ◌∙◌, subst, Bool, true, false, ◌||◌, ◌&&◌, List, [], ◌∷◌, length, arith, ◌⊎◌, inl, inr, ⊎_elim}
use Rattle.std.specs.List.{list_any}
use Rattle.std.specs.Str.{bytes_eq}
use Rattle.std.specs.Cmp.Lexicographic.{bytes_decides}
use Rattle.std.proofs.lemmas.Bool.{both_ways, or_cases, or_left, or_right, or_parts, and_from, lt-ltb}
use Rattle.card_type.specs.declared.key.ChatKey.{ChatKey}
use Rattle.card_type.specs.Effects.{is_among}
use Rattle.card_type.specs.Keys.{key_eq}
use Rattle.card_type.specs.Kinds.{has_some}
use Rattle.mailbox_model.specs.declared.turn.Turn.{Turn}
use Rattle.mailbox_model.specs.Lists.{Bytes}
use Rattle.mailbox_model.specs.Mailbox.{Mailbox}
use Rattle.mailbox_model.specs.Present.{Mail, has_id}
use Rattle.mailbox_model.specs.Chats.{chat, chat_mails, cites, is_chat}
use Rattle.mailbox_model.proofs.ChatLaws.{same_bytes}
use Rattle.mailbox_model.proofs.ListLaws.{key_self, keys_are}
use Rattle.touched_chats.specs.Costs.{touched_keys, AreHeld}
use Rattle.touched_chats.specs.Suspects.{falls_due, has_due, has_moved, is_moved, is_renamed, is_suspect, is_suspect_card, is_told, is_turned}
use Rattle.touched_chats.specs.Touched.{has_chat}
use Rattle.touched_chats.proofs.Among.{Among, any_found, found_any}
use Rattle.touched_chats.proofs.CardStaying.{unmoved_card}
use Rattle.touched_chats.proofs.CardsOfSuspects.{card_suspects, suspect_card}
use Rattle.touched_chats.proofs.Exact.{has_in_chat}
use Rattle.touched_chats.proofs.TouchedKeys.{touched_key}
use Rattle.chat_states.specs.States.{has_key}

-- ---- a chat with a card is there

some_found : (p : Mail → Bool) (ts : List Mail) → list_any p ts ≡ true → has_some ts ≡ true
some_found p [] h = cc
some_found p (t ∷ ts) h = lt-ltb 0 (length (t ∷ ts)) (omega arith)

pub chat_there : (m : Mailbox) (key : ChatKey) (id : Bytes) → is_chat key (chat m id) ≡ true → has_chat m key ≡ true
chat_there m key id h = keys_are m key ∙ some_found (has_id id) (chat_mails m key) (has_in_chat m key id ∙ h)

-- and has the id of a card
record IsCardIn (m : Mailbox) (key : ChatKey) : Type 0 where
  pub id : Bytes
  pub there : is_chat key (chat m id) ≡ true

card_there : (m : Mailbox) (key : ChatKey) → has_chat m key ≡ true → IsCardIn m key
card_there m key h = by (chat_mails m key) refl (sym (keys_are m key) ∙ h)
  where
    by : (ts : List Mail) → chat_mails m key ≡ ts → has_some ts ≡ true → IsCardIn m key
    by [] e k = cc
    by (t ∷ ts) e k =
        record {
          id = t.placed.card.id;
          there = sym (has_in_chat m key t.placed.card.id) ∙ ap (list_any (has_id t.placed.card.id)) e ∙ or_left (bytes_eq t.placed.card.id t.placed.card.id) (list_any (has_id t.placed.card.id) ts) (same_bytes t.placed.card.id);
        }

-- ---- the suspect cards are in the touched chats

module _ (m n : Mailbox) (turn : Turn) (ids : List Bytes) (are : (id : Bytes) → is_among ids id ≡ is_suspect_card m n turn id) where
  -- a chat that one of these cards is in, before or after
  abbrev pub has_one : ChatKey → Bool
  has_one key = list_any (λ id. is_chat key (chat m id) || is_chat key (chat n id)) ids

  among_ids : (id : Bytes) → Among id ids → is_among ids id ≡ true
  among_ids id there = found_any (bytes_eq id) id ids there (same_bytes id)

  one_there : (key : ChatKey) → has_one key ≡ true → (is_suspect m n turn key && (has_chat m key || has_chat n key)) ≡ true
  one_there key h =
      let f = any_found (λ id. is_chat key (chat m id) || is_chat key (chat n id)) ids h in
      let suspect = sym (are f.it) ∙ among_ids f.it f.among in
      and_from (is_suspect m n turn key) (has_chat m key || has_chat n key)
      (card_suspects m n turn key f.it suspect f.passes)
      (⊎_elim (λ k. or_left (has_chat m key) (has_chat n key) (chat_there m key f.it k)) (λ k. or_right (has_chat m key) (has_chat n key) (chat_there n key f.it k))
      (or_cases (is_chat key (chat m f.it)) (is_chat key (chat n f.it)) f.passes))

  one_of : (key : ChatKey) (id : Bytes) → is_among ids id ≡ true → (is_chat key (chat m id) || is_chat key (chat n id)) ≡ true → has_one key ≡ true
  one_of key id among there =
      let f = any_found (bytes_eq id) ids among in
      let same : id ≡ f.it = (bytes_decides id f.it).0 f.passes in
      found_any (λ i. is_chat key (chat m i) || is_chat key (chat n i)) f.it ids f.among (subst (λ i. (is_chat key (chat m i) || is_chat key (chat n i)) ≡ true) same there)

  -- a suspect chat has one, or is renamed
  one_or_renamed : (key : ChatKey) → is_suspect m n turn key ≡ true → (has_one key ≡ true) ⊎ (is_renamed m n turn key ≡ true)
  one_or_renamed key h =
      ⊎_elim (λ renamed. inr renamed) (λ found. inl (one_of key found.0 (are found.0 ∙ found.1) found.2)) (suspect_card m n turn key h)

  -- a chat without one, that was there, is there
  left_there : (key : ChatKey) → has_one key ≡ false → has_chat m key ≡ true → has_chat n key ≡ true
  left_there key none there =
      let c = card_there m key there in
      let unsuspect : is_among ids c.id ≡ false = apart (is_among ids c.id) refl c.id c.there in
      let free = or_parts (has_moved m n c.id) (is_told m n turn c.id || falls_due m n.now c.id) (sym (are c.id) ∙ unsuspect) in
      chat_there n key c.id (ap (is_chat key) (sym (unmoved_card m n c.id free.0)) ∙ c.there)
    where
      apart : (b : Bool) (e : b ≡ b) (id : Bytes) → is_chat key (chat m id) ≡ true → is_among ids id ≡ false
      apart b e id h =
          elim (is_among ids id) as (λ b. is_among ids id ≡ b → b ≡ false) [
            | true ↦ λ k. absurd (both_ways (has_one key) none (one_of key id k (or_left (is_chat key (chat m id)) (is_chat key (chat n id)) h)))
            | false ↦ λ k. refl
          ] refl

  pub touched_ones : (key : ChatKey) → (has_one key || (is_renamed m n turn key && has_chat n key)) ≡ list_any (key_eq key) (touched_keys m n turn)
  touched_ones key = by (has_one key) (is_renamed m n turn key) (is_suspect m n turn key) refl refl refl ∙ sym (touched_key m n turn key)
    where
      renamed_suspect : is_renamed m n turn key ≡ true → is_suspect m n turn key ≡ true
      renamed_suspect h =
          or_right (is_moved (cites m) (cites n) key) (is_turned m n turn key || (is_renamed m n turn key || has_due m n.now key))
          (or_right (is_turned m n turn key) (is_renamed m n turn key || has_due m n.now key)
          (or_left (is_renamed m n turn key) (has_due m n.now key) h))

      there_or : (b c : Bool) → (b ≡ true → c ≡ true) → c ≡ (b || c)
      there_or true c f = f refl
      there_or false c f = refl

      by : (b r s : Bool) → has_one key ≡ b → is_renamed m n turn key ≡ r → is_suspect m n turn key ≡ s
          → (b || (r && has_chat n key)) ≡ (s && (has_chat m key || has_chat n key))
      by true r s e f g = sym (ap (λ x. x && (has_chat m key || has_chat n key)) (sym g) ∙ one_there key e)
      by false true false e f g = absurd (both_ways (is_suspect m n turn key) g (renamed_suspect f))
      by false true true e f g = there_or (has_chat m key) (has_chat n key) (left_there key e)
      by false false false e f g = refl
      by false false true e f g =
          ⊎_elim (λ k. absurd (both_ways (has_one key) e k)) (λ k. absurd (both_ways (is_renamed m n turn key) f k)) (one_or_renamed key g)

  -- chats that each have one are among the touched ones
  pub held_ones : (some : List ChatKey) → ((key : ChatKey) → has_key some key ≡ true → has_one key ≡ true) → AreHeld (touched_keys m n turn) some
  held_ones [] f = tt
  held_ones (key ∷ some) f =
      (held key (f key (or_left (key_eq key key) (has_key some key) (key_self key))), held_ones some (λ k h. f k (or_right (key_eq k key) (has_key some k) h)))
    where
      held : (key : ChatKey) → has_one key ≡ true → list_any (key_eq key) (touched_keys m n turn) ≡ true
      held key h = touched_key m n turn key ∙ one_there key h
