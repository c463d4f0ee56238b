-- The chats of a suspect card are suspect, and a suspect chat has a suspect card, or is renamed.
use Rattle.std.proofs.Common.{◌≡◌, refl, sym, ap, ◌∙◌, subst, Bool, true, false, not, ◌||◌, Option, Some, None, List, [], ◌∷◌, ◌++◌, ◌⊎◌, inl, inr, ⊎_elim}
use Rattle.std.specs.Prelude.{if◌then◌else◌, filter_map, find}
use Rattle.std.specs.List.{list_any, IsDistinct, cons_option}
use Rattle.std.specs.Option.{option_eq, option_map_or}
use Rattle.std.specs.Str.{bytes_eq}
use Rattle.std.specs.Cmp.Lexicographic.{bytes_decides}
use Rattle.std.proofs.lemmas.Bool.{both_ways, or_cases, or_left, or_right, not-true, false≢true}
use Rattle.lists.proofs.DistinctLaws.{IsDistinct-filter, IsDistinct-firsts}
use Rattle.lists.proofs.Inserts.{found_passes}
use Rattle.card_type.specs.declared.key.ChatKey.{ChatKey}
use Rattle.card_type.specs.Effects.{names}
use Rattle.card_type.specs.Keys.{key_eq}
use Rattle.mailbox_model.specs.declared.links.Cites.{Cites}
use Rattle.mailbox_model.specs.declared.links.Moved.{Moved}
use Rattle.mailbox_model.specs.declared.turn.Turn.{Turn}
use Rattle.mailbox_model.specs.Lists.{Bytes}
use Rattle.mailbox_model.specs.Mailbox.{Mailbox}
use Rattle.mailbox_model.specs.Present.{Mail, mails, has_id, same_id, present, contents}
use Rattle.mailbox_model.specs.Chats.{chat, chat_among, chat_mails, cites, is_chat, moved}
use Rattle.mailbox_model.proofs.ChatLaws.{same_bytes}
use Rattle.mailbox_model.proofs.MailLaws.{bytes_turn}
use Rattle.touched_chats.specs.Suspects.{is_end, is_moved, turned, is_near, is_turned, is_renamed, is_due, has_due, is_suspect, has_moved, is_about, is_told, falls_due, is_suspect_card}
use Rattle.touched_chats.proofs.Among.{Among, found_any, any_found, found_among, among_passing, passing_among, found_by_itself}
use Rattle.touched_chats.proofs.Near.{is_content_mail, is_in}
use Rattle.touched_chats.proofs.Moving.{unmoved_chat}
use Rattle.touched_chats.proofs.Exact.{one_chat}

-- ---- a chat of a suspect card

-- two alike of which one holds
either_holds : (b c : Bool) → b ≡ c → (b || c) ≡ true → (b ≡ true) × (c ≡ true)
either_holds true c same h = (refl, sym same)
either_holds false c same h = (same ∙ h, h)

module _ (m n : Mailbox) (turn : Turn) (key : ChatKey) (id : Bytes) where
  -- where the card stays in the chat
  module _ (before : is_chat key (chat m id) ≡ true) (after : is_chat key (chat n id) ≡ true) where
    not_moved : has_moved m n id ≡ true → is_moved (cites m) (cites n) key ≡ true
    not_moved h =
        let same = option_eq key_eq (chat m id) (chat n id) in
        absurd (both_ways same (not-true same h) (one_chat key (chat m id) (chat n id) before after))

    told_near : is_told m n turn id ≡ true → is_turned m n turn key ≡ true
    told_near h =
        let t = any_found (is_about id) (turned m n turn) h in
        let ids = t.it.placed.card.id ∷ names t.it.placed.card in
        let i = any_found (bytes_eq id) ids t.passes in
        let there : is_chat key (chat n i.it) ≡ true = subst (λ i. is_chat key (chat n i) ≡ true) ((bytes_decides id i.it).0 i.passes) after in
        found_any (is_near n key) t.it (turned m n turn) t.among (found_any (λ i. is_chat key (chat n i)) i.it ids i.among there)

    due_there : falls_due m n.now id ≡ true → has_due m n.now key ≡ true
    due_there h = by (find (has_id id) (contents m)) refl h
      where
        by : (o : Option Mail) → find (has_id id) (contents m) ≡ o → option_map_or (is_due m n.now) o false ≡ true → has_due m n.now key ≡ true
        by None e due = absurd (false≢true due)
        by (Some t) e due =
            let own : id ≡ t.placed.card.id = (bytes_decides id t.placed.card.id).0 (found_passes (has_id id) (contents m) t e) in
            found_any (is_due m n.now) t (chat_mails m key)
            (among_passing (is_in m key) t (contents m) (found_among (has_id id) (contents m) t e) (subst (λ i. is_chat key (chat m i) ≡ true) own before)) due

  pub card_suspects : is_suspect_card m n turn id ≡ true → (is_chat key (chat m id) || is_chat key (chat n id)) ≡ true
      → is_suspect m n turn key ≡ true
  card_suspects h there = by (is_moved (cites m) (cites n) key) refl
    where
      rest : Bool
      rest = is_turned m n turn key || (is_renamed m n turn key || has_due m n.now key)

      stays : (is_chat key (chat m id) ≡ true) × (is_chat key (chat n id) ≡ true) → is_suspect m n turn key ≡ true
      stays both =
          ⊎_elim (λ moves. or_left (is_moved (cites m) (cites n) key) rest (not_moved both.0 both.1 moves))
          (λ more. or_right (is_moved (cites m) (cites n) key) rest
          (⊎_elim (λ told. or_left (is_turned m n turn key) (is_renamed m n turn key || has_due m n.now key) (told_near both.0 both.1 told))
          (λ due. or_right (is_turned m n turn key) (is_renamed m n turn key || has_due m n.now key)
          (or_right (is_renamed m n turn key) (has_due m n.now key) (due_there both.0 both.1 due)))
          (or_cases (is_told m n turn id) (falls_due m n.now id) more)))
          (or_cases (has_moved m n id) (is_told m n turn id || falls_due m n.now id) h)

      by : (b : Bool) → is_moved (cites m) (cites n) key ≡ b → is_suspect m n turn key ≡ true
      by true e = or_left (is_moved (cites m) (cites n) key) rest e
      by false e = stays (either_holds (is_chat key (chat m id)) (is_chat key (chat n id)) (unmoved_chat m n key e id) there)

-- ---- a suspect card of a chat

pub contents_once : (m : Mailbox) → IsDistinct same_id (contents m)
contents_once m = IsDistinct-filter same_id is_content_mail (present m) (IsDistinct-firsts same_id (mails m))

pub found_by_id : (m : Mailbox) (t : Mail) → Among t (contents m) → find (has_id t.placed.card.id) (contents m) ≡ Some t
found_by_id m t there =
    found_by_itself same_id (λ u. same_bytes u.placed.card.id) (λ u v. bytes_turn u.placed.card.id v.placed.card.id) (contents m) (contents_once m) t there

-- a card that came into a chat or left it
module _ (key : ChatKey) (before after : List Cites) where
  abbrev MovesAt : Bytes → Type 0
  MovesAt id =
      (option_eq key_eq (chat_among before id) (chat_among after id) ≡ false) × ((is_chat key (chat_among before id) || is_chat key (chat_among after id)) ≡ true)

  one_moved : (ts : List Cites)
      → list_any (is_end key) (filter_map (λ t. moved t.spot.id (chat_among before t.spot.id) (chat_among after t.spot.id)) ts) ≡ true
      → (id : Bytes) × MovesAt id
  one_moved [] h = absurd (false≢true h)
  one_moved (t ∷ ts) h = by (option_eq key_eq old new) refl (one_moved ts) h
    where
      id : Bytes
      id = t.spot.id

      old : Option ChatKey
      old = chat_among before id

      new : Option ChatKey
      new = chat_among after id

      others : List Moved
      others = filter_map (λ t. moved t.spot.id (chat_among before t.spot.id) (chat_among after t.spot.id)) ts

      by : (b : Bool) → option_eq key_eq old new ≡ b → (list_any (is_end key) others ≡ true → (id : Bytes) × MovesAt id)
          → list_any (is_end key) (cons_option (if b then None else Some (record { id = id; before = old; after = new })) others) ≡ true
          → (id : Bytes) × MovesAt id
      by true e rest k = rest k
      by false e rest k = ⊎_elim (λ end. (id, (e, end))) rest (or_cases (is_chat key old || is_chat key new) (list_any (is_end key) others) k)

module _ (m n : Mailbox) (turn : Turn) where
  -- a card is suspect for one of three reasons
  by_move : (id : Bytes) → has_moved m n id ≡ true → is_suspect_card m n turn id ≡ true
  by_move id h = or_left (has_moved m n id) (is_told m n turn id || falls_due m n.now id) h

  by_mail : (id : Bytes) → is_told m n turn id ≡ true → is_suspect_card m n turn id ≡ true
  by_mail id h =
      or_right (has_moved m n id) (is_told m n turn id || falls_due m n.now id) (or_left (is_told m n turn id) (falls_due m n.now id) h)

  pub by_clock : (id : Bytes) → falls_due m n.now id ≡ true → is_suspect_card m n turn id ≡ true
  by_clock id h =
      or_right (has_moved m n id) (is_told m n turn id || falls_due m n.now id) (or_right (is_told m n turn id) (falls_due m n.now id) h)

module _ (m n : Mailbox) (turn : Turn) (key : ChatKey) where
  -- a suspect card is in the chat, before or after
  abbrev HasSuspect : Type 0
  HasSuspect =
      (id : Bytes) × (is_suspect_card m n turn id ≡ true) × ((is_chat key (chat m id) || is_chat key (chat n id)) ≡ true)

  of_moved : is_moved (cites m) (cites n) key ≡ true → HasSuspect
  of_moved h =
      let one = one_moved key (cites m) (cites n) (cites m ++ cites n) h in
      (one.0, by_move m n turn one.0 (ap not one.1.0), one.1.1)

  of_turned : is_turned m n turn key ≡ true → HasSuspect
  of_turned h =
      let t = any_found (is_near n key) (turned m n turn) h in
      let ids = t.it.placed.card.id ∷ names t.it.placed.card in
      let id = any_found (λ id. is_chat key (chat n id)) ids t.passes in
      let about : is_about id.it t.it ≡ true = found_any (bytes_eq id.it) id.it ids id.among (same_bytes id.it) in
      let told = found_any (is_about id.it) t.it (turned m n turn) t.among about in
      (id.it, by_mail m n turn id.it told, or_right (is_chat key (chat m id.it)) (is_chat key (chat n id.it)) id.passes)

  of_due : has_due m n.now key ≡ true → HasSuspect
  of_due h =
      let t = any_found (is_due m n.now) (chat_mails m key) h in
      let there = passing_among (is_in m key) t.it (contents m) t.among in
      let id = t.it.placed.card.id in
      let due : falls_due m n.now id ≡ true = ap (λ o. option_map_or (is_due m n.now) o false) (found_by_id m t.it there.0) ∙ t.passes in
      (id, by_clock m n turn id due, or_left (is_chat key (chat m id)) (is_chat key (chat n id)) there.1)

  pub suspect_card : is_suspect m n turn key ≡ true
      → (is_renamed m n turn key ≡ true) ⊎ ((id : Bytes) × (is_suspect_card m n turn id ≡ true) × ((is_chat key (chat m id) || is_chat key (chat n id)) ≡ true))
  suspect_card h =
      ⊎_elim (λ moves. inr (of_moved moves))
      (λ more. ⊎_elim (λ near. inr (of_turned near))
      (λ rest. ⊎_elim (λ renamed. inl renamed) (λ due. inr (of_due due))
      (or_cases (is_renamed m n turn key) (has_due m n.now key) rest))
      (or_cases (is_turned m n turn key) (is_renamed m n turn key || has_due m n.now key) more))
      (or_cases (is_moved (cites m) (cites n) key) (is_turned m n turn key || (is_renamed m n turn key || has_due m n.now key)) h)
