-- A chat that is suspect by its cards or by a mail of the turn is touched.
use Rattle.std.proofs.Common.{◌≡◌, ◌≢◌, refl, sym, ap, ◌∙◌, subst, Bool, true, false, not, ◌||◌, ◌&&◌, Option, Some, None, is_some, List, [], ◌∷◌, ◌++◌, map, inl, inr, ⊎_elim}
use Rattle.std.specs.Prelude.{if◌then◌else◌, filter_map}
use Rattle.std.specs.List.{list_any, IsDistinct, cons_option}
use Rattle.std.specs.Option.{option_eq}
use Rattle.std.specs.Str.{bytes_eq}
use Rattle.std.specs.Cmp.Lexicographic.{bytes_decides}
use Rattle.std.proofs.lemmas.Bool.{both_ways, or_parts, or_from, or_left, or_right, not-true, false≢true}
use Rattle.lists.proofs.DistinctLaws.{IsDistinct-firsts}
use Rattle.card_type.specs.declared.key.ChatKey.{ChatKey}
use Rattle.card_type.specs.Effects.{is_among, names}
use Rattle.card_type.specs.Keys.{key_eq}
use Rattle.mailbox_model.specs.declared.links.Cites.{Cites}
use Rattle.mailbox_model.specs.declared.links.Moved.{Moved}
use Rattle.mailbox_model.specs.declared.turn.Turn.{Turn}
use Rattle.mailbox_model.specs.Lists.{Bytes}
use Rattle.mailbox_model.specs.Mailbox.{Mailbox, IsMailbox}
use Rattle.mailbox_model.specs.Present.{Mail, spot, mails, has_id, same_id, present, contents}
use Rattle.mailbox_model.specs.Turns.{IsTurn}
use Rattle.mailbox_model.specs.Chats.{chat, chat_among, chat_mails, cites, cites_by, is_chat, is_id_among, moved}
use Rattle.mailbox_model.proofs.ChatLaws.{is_some-known_chat}
use Rattle.mailbox_model.proofs.ListLaws.{key_same}
use Rattle.mailbox_model.proofs.MailLaws.{bytes_turn, is_alike}
use Rattle.touched_chats.specs.Touched.{is_same, only_in, changed, is_or_names, is_concerned}
use Rattle.touched_chats.specs.Suspects.{is_end, is_moved, is_near, is_turned, turned}
use Rattle.touched_chats.proofs.Lists.{any_passing}
use Rattle.touched_chats.proofs.Among.{Among, found_any, any_found, among_passing, passing_among, among_first, among_either, one_alike}
use Rattle.touched_chats.proofs.Near.{is_in, is_content_mail}
use Rattle.touched_chats.proofs.SameMails.{same_itself, one_of, same_turn}
use Rattle.touched_chats.proofs.Differing.{turned_changed}

-- ---- a chat has a card with an id just where that id is in the chat

by_id : (q : Bytes → Bool) (id : Bytes) (ts : List Mail) → list_any (λ t. q t.placed.card.id && has_id id t) ts ≡ (q id && list_any (has_id id) ts)
by_id q id [] = none (q id)
  where
    none : (b : Bool) → false ≡ (b && false)
    none true = refl
    none false = refl
by_id q id (t ∷ ts) = by (bytes_eq id t.placed.card.id) refl (by_id q id ts)
  where
    here : (b c : Bool) → ((b && true) || (b && c)) ≡ (b && (true || c))
    here true c = refl
    here false c = refl

    apart : (b c : Bool) → ((b && false) || c) ≡ c
    apart true c = refl
    apart false c = refl

    by : (b : Bool) → bytes_eq id t.placed.card.id ≡ b → list_any (λ t. q t.placed.card.id && has_id id t) ts ≡ (q id && list_any (has_id id) ts)
        → ((q t.placed.card.id && b) || list_any (λ t. q t.placed.card.id && has_id id t) ts) ≡ (q id && (b || list_any (has_id id) ts))
    by true e rest =
        let same : t.placed.card.id ≡ id = sym ((bytes_decides id t.placed.card.id).0 e) in
        (λ i. (q (same i) && true) || rest i) ∙ here (q id) (list_any (has_id id) ts)
    by false e rest = apart (q t.placed.card.id) (list_any (λ t. q t.placed.card.id && has_id id t) ts) ∙ rest

pub ids_of_cites : (me : Bytes) (ts : List Mail) (id : Bytes) → is_id_among (map (λ t. cites_by me (spot t.placed) t.placed.card) ts) id ≡ list_any (has_id id) ts
ids_of_cites me [] id = refl
ids_of_cites me (t ∷ ts) id = ap (λ b. bytes_eq id t.placed.card.id || b) (ids_of_cites me ts id)

pub has_in_chat : (m : Mailbox) (key : ChatKey) (id : Bytes) → list_any (has_id id) (chat_mails m key) ≡ is_chat key (chat m id)
has_in_chat m key id =
    any_passing (has_id id) (is_in m key) (contents m)
    ∙ by_id (λ i. is_chat key (chat m i)) id (contents m)
    ∙ ap (λ b. is_chat key (chat m id) && b) (sym (ids_of_cites m.me (contents m) id) ∙ sym (is_some-known_chat [] (cites m) id))
    ∙ there (chat m id)
  where
    there : (o : Option ChatKey) → (is_chat key o && is_some o) ≡ is_chat key o
    there None = refl
    there (Some k) = both (key_eq key k)
      where
        both : (b : Bool) → (b && true) ≡ b
        both true = refl
        both false = refl

-- ---- where a card moved, the cards differ

pub one_chat : (key : ChatKey) (a b : Option ChatKey) → is_chat key a ≡ true → is_chat key b ≡ true → option_eq key_eq a b ≡ true
one_chat key None b p q = absurd (false≢true p)
one_chat key (Some k) None p q = absurd (false≢true q)
one_chat key (Some k) (Some l) p q = subst (λ j. key_eq j l ≡ true) (key_same key k p) q

no_end : (key : ChatKey) (id : Bytes) (a b : Option ChatKey) → is_chat key a ≡ is_chat key b → list_any (is_end key) (cons_option (moved id a b) []) ≡ false
no_end key id a b same = by (option_eq key_eq a b) refl
  where
    neither : (c : Bool) → is_chat key a ≡ c → option_eq key_eq a b ≡ false → is_chat key a ≡ false
    neither true e f = absurd (both_ways (option_eq key_eq a b) f (one_chat key a b e (sym same ∙ e)))
    neither false e f = e

    by : (c : Bool) → option_eq key_eq a b ≡ c → list_any (is_end key) (cons_option (if c then None else Some (record { id = id; before = a; after = b })) []) ≡ false
    by true e = refl
    by false e = let no = neither (is_chat key a) refl e in rw (no, sym same ∙ no) refl

module _ (key : ChatKey) (before after : List Cites) (same : (id : Bytes) → is_chat key (chat_among before id) ≡ is_chat key (chat_among after id)) where
  pub none_moved : (ts : List Cites) → list_any (is_end key) (filter_map (λ t. moved t.spot.id (chat_among before t.spot.id) (chat_among after t.spot.id)) ts) ≡ false
  none_moved [] = refl
  none_moved (t ∷ ts) =
      first (moved t.spot.id (chat_among before t.spot.id) (chat_among after t.spot.id)) (no_end key t.spot.id (chat_among before t.spot.id) (chat_among after t.spot.id) (same t.spot.id)) (none_moved ts)
    where
      first : (o : Option Moved) → list_any (is_end key) (cons_option o []) ≡ false
          → list_any (is_end key) (filter_map (λ t. moved t.spot.id (chat_among before t.spot.id) (chat_among after t.spot.id)) ts) ≡ false
          → list_any (is_end key) (cons_option o (filter_map (λ t. moved t.spot.id (chat_among before t.spot.id) (chat_among after t.spot.id)) ts)) ≡ false
      first None h rest = rest
      first (Some mv) h rest = or_from (is_end key mv) (list_any (is_end key) (filter_map (λ t. moved t.spot.id (chat_among before t.spot.id) (chat_among after t.spot.id)) ts)) (or_parts (is_end key mv) false h).0 rest

pub moved_touched : (m n : Mailbox) (key : ChatKey) → is_moved (cites m) (cites n) key ≡ true → chat_mails m key ≢ chat_mails n key
moved_touched m n key h e =
    both_ways (is_moved (cites m) (cites n) key)
    (none_moved key (cites m) (cites n) (λ id. sym (has_in_chat m key id) ∙ ap (list_any (has_id id)) e ∙ has_in_chat n key id) (cites m ++ cites n)) h

-- ---- a mail of the turn concerns a card of each chat that it is near

module _ (m n : Mailbox) (key : ChatKey) (e : Mail) (e_changed : Among e (changed m n)) where
  once : (m : Mailbox) → IsDistinct same_id (present m)
  once m = IsDistinct-firsts same_id (mails m)

  by_mail : (t c : Mail) → Among t (changed m n) → is_or_names c t ≡ true → is_concerned m n c ≡ true
  by_mail t c there h = found_any (is_or_names c) t (changed m n) there h

  -- a card with its id
  same_concerned : (c : Mail) → Among c (present n) → bytes_eq e.placed.card.id c.placed.card.id ≡ true → is_concerned m n c ≡ true
  same_concerned c new same = by (list_any (is_same c) (present m)) refl
    where
      itself : is_or_names c c ≡ true
      itself = or_left (is_same c c) (is_among (names c.placed.card) c.placed.card.id) (same_itself c)

      from_new : Among e (only_in (present n) (present m)) → is_concerned m n c ≡ true
      from_new k =
          let one : e ≡ c = one_alike same_id is_alike.turn (present n) (once n) e c (passing_among (λ u. not (list_any (is_same u) (present m))) e (present n) k).0 new same in
          by_mail c c (subst (λ u. Among u (changed m n)) one e_changed) itself

      from_old : list_any (is_same c) (present m) ≡ true → Among e (only_in (present m) (present n)) → is_concerned m n c ≡ true
      from_old h k =
          let left = passing_among (λ u. not (list_any (is_same u) (present n))) e (present m) k in
          let f = any_found (is_same c) (present m) h in
          let one : f.it ≡ e = one_alike same_id is_alike.turn (present m) (once m) f.it e f.among left.0 (ap (λ id. bytes_eq id e.placed.card.id) (sym ((one_of c f.it f.passes).id)) ∙ bytes_turn c.placed.card.id e.placed.card.id ∙ same) in
          let back : is_same e c ≡ true = same_turn c e (ap (is_same c) (sym one) ∙ f.passes) in
          absurd (both_ways (list_any (is_same e) (present n)) (not-true (list_any (is_same e) (present n)) left.1) (found_any (is_same e) c (present n) new back))

      by : (b : Bool) → list_any (is_same c) (present m) ≡ b → is_concerned m n c ≡ true
      by true h = ⊎_elim from_new (from_old h) (among_either e (only_in (present n) (present m)) (only_in (present m) (present n)) e_changed)
      by false h =
          by_mail c c (among_first c (only_in (present n) (present m)) (only_in (present m) (present n)) (among_passing (λ u. not (list_any (is_same u) (present m))) c (present n) new (ap not h))) itself

  near_concerned : is_near n key e ≡ true → list_any (is_concerned m n) (chat_mails n key) ≡ true
  near_concerned h =
      let id = any_found (λ id. is_chat key (chat n id)) (e.placed.card.id ∷ names e.placed.card) h in
      let c = any_found (has_id id.it) (chat_mails n key) (has_in_chat n key id.it ∙ id.passes) in
      found_any (is_concerned m n) c.it (chat_mails n key) c.among (card id.it c.it id.among c.among c.passes)
    where
      card : (id : Bytes) (c : Mail) → Among id (e.placed.card.id ∷ names e.placed.card) → Among c (chat_mails n key) → bytes_eq id c.placed.card.id ≡ true → is_concerned m n c ≡ true
      card id c (inl is) there has =
          same_concerned c (passing_among is_content_mail c (present n) (passing_among (is_in n key) c (contents n) there).0).0
          (ap (λ i. bytes_eq i c.placed.card.id) is ∙ has)
      card id c (inr named) there has =
          by_mail e c e_changed (or_right (is_same e c) (is_among (names e.placed.card) c.placed.card.id) (found_any (bytes_eq c.placed.card.id) id (names e.placed.card) named (bytes_turn c.placed.card.id id ∙ has)))

pub turned_concerned : (m n : Mailbox) (turn : Turn) (key : ChatKey) → IsMailbox m → IsMailbox n → IsTurn m n turn → is_turned m n turn key ≡ true
    → list_any (is_concerned m n) (chat_mails n key) ≡ true
turned_concerned m n turn key k l is h =
    let e = any_found (is_near n key) (turned m n turn) h in
    near_concerned m n key e.it (turned_changed m n k l turn is e.it e.among) e.passes
