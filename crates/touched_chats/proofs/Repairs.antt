-- What a repair reads of single cards, of chats and of rows that fall due is no more than its cost counts.
use Rattle.std.proofs.Common.{◌≡◌, refl, sym, ap, ◌∙◌, ℕ, ◌+◌, ◌*◌, ◌≤◌, Bool, true, false, not, ◌||◌, ◌&&◌, Option, Some, None, is_some, List, [], ◌∷◌, length, arith, ⊎_elim}
use Rattle.std.specs.Prelude.{filter, find, sum_by, nat_eq, ◌==◌}
use Rattle.std.specs.List.{list_any, AllByRecursion, IsDistinct}
use Rattle.std.specs.Option.{option_map_or}
use Rattle.std.specs.Str.{bytes_eq}
use Rattle.std.specs.Cmp.Lexicographic.{bytes_decides}
use Rattle.std.proofs.lemmas.Bool.{and_parts, and_from, or_cases, or_left, or_right, eq-eqb, eqb-true, lt-ltb, false≢true}
use Rattle.std.proofs.lemmas.List.Filters.{length-filter_both}
use Rattle.lists.proofs.DistinctLaws.{IsDistinct-filter}
use Rattle.lists.proofs.Inserts.{found_passes}
use Rattle.card_type.specs.declared.key.ChatKey.{ChatKey}
use Rattle.card_type.specs.Keys.{key_eq}
use Rattle.card_type.specs.Kinds.{has_some}
use Rattle.mailbox_model.specs.declared.change.Change.{Change}
use Rattle.mailbox_model.specs.declared.turn.Turn.{Turn}
use Rattle.mailbox_model.specs.Lists.{Bytes}
use Rattle.mailbox_model.specs.Mailbox.{Mailbox, after, full, IsMailbox, IsValidChange}
use Rattle.mailbox_model.specs.Present.{Mail, has_id, same_uid, present, contents}
use Rattle.mailbox_model.specs.Turns.{turn, IsTurn}
use Rattle.mailbox_model.specs.Chats.{chat, cites, is_chat, chat_mails}
use Rattle.mailbox_model.proofs.ChatLaws.{is_some-known_chat, same_bytes}
use Rattle.mailbox_model.proofs.ListLaws.{key_self, key_turn, keys_are}
use Rattle.mailbox_model.proofs.RuleLaws.{change_keeps}
use Rattle.mailbox_model.proofs.TurnLaws.{turn_law}
use Rattle.mailbox_model.proofs.UidLaws.{present_uids}
use Rattle.touched_chats.specs.Touched.{has_chat, HoldsTouched}
use Rattle.touched_chats.specs.Suspects.{is_due, is_suspect_card, uid_falls_due}
use Rattle.touched_chats.specs.Costs.{is_in_any, cards_in, citing_unsettled, by_uid, pairs_of, row_reads, change_cost, settle_reads, touched_keys, AreHeld}
use Rattle.touched_chats.proofs.Among.{Among, any_found, found_any, found_among, among_all}
use Rattle.touched_chats.proofs.CardsOfSuspects.{by_clock, card_suspects, found_by_id}
use Rattle.touched_chats.proofs.Counts.{ones, sum_more, sum_of_both, is_had, found_sum, found_count}
use Rattle.touched_chats.proofs.Exact.{has_in_chat, ids_of_cites}
use Rattle.touched_chats.proofs.Lists.{All-passing}
use Rattle.touched_chats.proofs.Near.{is_content_mail}
use Rattle.touched_chats.proofs.Refolds.{cards_of, left_over, cards_counted, each_read, sum_of_chats, in_any_more}
use Rattle.touched_chats.proofs.Staying.{same_me}
use Rattle.touched_chats.proofs.Suspected.{suspect_touched}
use Rattle.touched_chats.proofs.TouchedKeys.{touched_held}

-- ---- the cards before are no more than those counted

no_more : {X : Type 0} (p : X → Bool) (xs : List X) → length (filter p xs) ≤ length xs
no_more p xs = let both = length-filter_both p (λ x. not (p x)) (λ x. refl) xs in omega (arith, both)

one_uid : (a b x : Mail) → same_uid a x ≡ true → same_uid b x ≡ true → same_uid a b ≡ true
one_uid a b x h k =
    eq-eqb a.placed.uid b.placed.uid (eqb-true a.placed.uid x.placed.uid h ∙ sym (eqb-true b.placed.uid x.placed.uid k))

before_counted : (m n : Mailbox) (held : List ChatKey) → IsMailbox m → length (cards_of m held) ≤ length (cards_in m n held)
before_counted m n held k = omega (arith, cards_counted m n held, split, few, fewer)
  where
    still : Mail → Bool
    still t = list_any (same_uid t) (cards_of n held)

    split : length (filter still (cards_of m held)) + length (left_over m n held) ≡ length (cards_of m held)
    split = length-filter_both still (λ t. not (still t)) (λ t. refl) (cards_of m held)

    once : IsDistinct same_uid (filter still (cards_of m held))
    once =
        IsDistinct-filter same_uid still (cards_of m held)
        (IsDistinct-filter same_uid (is_in_any m held) (contents m)
        (IsDistinct-filter same_uid is_content_mail (present m) (present_uids m k.uids)))

    few : length (filter still (cards_of m held)) ≤ length (filter (is_had same_uid (filter still (cards_of m held))) (cards_of n held))
    few =
        found_count same_uid same_uid one_uid (cards_of n held) (filter still (cards_of m held)) once
        (All-passing (λ t. still t ≡ true) still (cards_of m held) (λ t h. h))

    fewer : length (filter (is_had same_uid (filter still (cards_of m held))) (cards_of n held)) ≤ length (cards_of n held)
    fewer = no_more (is_had same_uid (filter still (cards_of m held))) (cards_of n held)

-- ---- each card is in a chat, which is there

some_of : {X : Type 0} (p : X → Bool) (xs : List X) → list_any p xs ≡ true → has_some xs ≡ true
some_of p [] h = absurd (false≢true h)
some_of p (x ∷ xs) h = lt-ltb 0 (length (x ∷ xs)) (omega arith)

chat_there : (m : Mailbox) (key : ChatKey) (id : Bytes) → is_chat key (chat m id) ≡ true → has_chat m key ≡ true
chat_there m key id h = keys_are m key ∙ some_of (has_id id) (chat_mails m key) (has_in_chat m key id ∙ h)

either_there : (m n : Mailbox) (key : ChatKey) (id : Bytes) → (is_chat key (chat m id) || is_chat key (chat n id)) ≡ true
    → (has_chat m key || has_chat n key) ≡ true
either_there m n key id h =
    ⊎_elim (λ e. or_left (has_chat m key) (has_chat n key) (chat_there m key id e))
    (λ e. or_right (has_chat m key) (has_chat n key) (chat_there n key id e))
    (or_cases (is_chat key (chat m id)) (is_chat key (chat n id)) h)

in_some_chat : (m : Mailbox) (t : Mail) → Among t (contents m) → (key : ChatKey) × (is_chat key (chat m t.placed.card.id) ≡ true)
in_some_chat m t there = by (chat m t.placed.card.id) known
  where
    known : is_some (chat m t.placed.card.id) ≡ true
    known =
        is_some-known_chat [] (cites m) t.placed.card.id ∙ ids_of_cites m.me (contents m) t.placed.card.id
        ∙ found_any (has_id t.placed.card.id) t (contents m) there (same_bytes t.placed.card.id)

    by : (o : Option ChatKey) → is_some o ≡ true → (key : ChatKey) × (is_chat key o ≡ true)
    by None h = absurd (false≢true h)
    by (Some key) h = (key, key_self key)

-- where each of its chats is among these, it is one of their cards
in_held : (m : Mailbox) (held : List ChatKey) (t : Mail) → Among t (contents m)
    → ((key : ChatKey) → is_chat key (chat m t.placed.card.id) ≡ true → list_any (key_eq key) held ≡ true) → is_in_any m held t ≡ true
in_held m held t there each = by (chat m t.placed.card.id) (in_some_chat m t there) each
  where
    by : (o : Option ChatKey) → (key : ChatKey) × (is_chat key o ≡ true) → ((key : ChatKey) → is_chat key o ≡ true → list_any (key_eq key) held ≡ true)
        → list_any (λ key. is_chat key o) held ≡ true
    by None some each = absurd (false≢true some.1)
    by (Some key) some each =
        let other = any_found (key_eq key) held (each key (key_self key)) in
        found_any (λ k. key_eq k key) other.it held other.among (key_turn other.it key ∙ other.passes)

pub one_id : (a b : Bytes) (t : Mail) → has_id a t ≡ true → has_id b t ≡ true → bytes_eq a b ≡ true
one_id a b t h k =
    (bytes_decides a b).1 ((bytes_decides a t.placed.card.id).0 h ∙ sym ((bytes_decides b t.placed.card.id).0 k))

-- ---- to fold different chats, as they are

pub folding_fits : (m n : Mailbox) (keys held : List ChatKey) → IsDistinct key_eq keys → AreHeld held keys
    → sum_by (λ key. length (chat_mails n key)) keys ≤ length (cards_in m n held)
folding_fits m n keys held d a =
    let by_chat = sum_of_chats n (λ t. 1) keys d in
    let wider = sum_more (λ t. 1) (is_in_any n keys) (is_in_any n held) (contents n) (λ t there. in_any_more n keys held a t) in
    omega (arith, same, by_chat, wider, ones (cards_of n held), cards_counted m n held)
  where
    same : sum_by (λ key. length (chat_mails n key)) keys ≡ sum_by (λ key. sum_by (λ t. 1) (chat_mails n key)) keys
    same = λ i. sum_by (λ key. sym (ones (chat_mails n key)) i) keys

-- ---- suspect cards

module _ (m n : Mailbox) (turn : Turn) (me : m.me ≡ n.me) (k : IsMailbox m) (l : IsMailbox n) (is : IsTurn m n turn)
    (held : List ChatKey) (all : HoldsTouched m n held) where
  suspect_held : (id : Bytes) → is_suspect_card m n turn id ≡ true → (key : ChatKey)
      → (is_chat key (chat m id) || is_chat key (chat n id)) ≡ true → list_any (key_eq key) held ≡ true
  suspect_held id h key e =
      all key (suspect_touched m n turn key me k l is (card_suspects m n turn key id h e) (either_there m n key id e))

  held_before : (t : Mail) → Among t (contents m) → is_suspect_card m n turn t.placed.card.id ≡ true → is_in_any m held t ≡ true
  held_before t there h =
      let id = t.placed.card.id in
      in_held m held t there (λ key e. suspect_held id h key (or_left (is_chat key (chat m id)) (is_chat key (chat n id)) e))

  pub held_after : (t : Mail) → Among t (contents n) → is_suspect_card m n turn t.placed.card.id ≡ true → is_in_any n held t ≡ true
  held_after t there h =
      let id = t.placed.card.id in
      in_held n held t there (λ key e. suspect_held id h key (or_right (is_chat key (chat m id)) (is_chat key (chat n id)) e))

  -- to settle different suspect cards
  pub settling_fits : (ids : List Bytes) → IsDistinct bytes_eq ids → AllByRecursion (λ id. is_suspect_card m n turn id ≡ true) ids
      → sum_by (settle_reads m n) ids ≤ 2 * length (cards_in m n held) + pairs_of m n (by_uid (cards_in m n held) (citing_unsettled m n))
  settling_fits ids d a =
      let read_before : Bytes → ℕ = λ id. option_map_or (λ t. 1) (find (has_id id) (contents m)) 0 in
      let read_after : Bytes → ℕ = λ id. option_map_or (row_reads n) (find (has_id id) (contents n)) 0 in
      let both = sum_of_both read_before read_after ids in
      let old = found_sum bytes_eq has_id one_id (λ t. 1) (contents m) ids d in
      let new = found_sum bytes_eq has_id one_id (row_reads n) (contents n) ids d in
      let old_held = sum_more (λ t. 1) (is_had has_id ids) (is_in_any m held) (contents m) (λ t there h. held_before t there (suspect t h)) in
      let new_held = sum_more (row_reads n) (is_had has_id ids) (is_in_any n held) (contents n) (λ t there h. held_after t there (suspect t h)) in
      let counted = ones (cards_of m held) in
      omega (arith, both, old, new, old_held, new_held, counted, before_counted m n held k, each_read m n held, cards_counted m n held)
    where
      suspect : (t : Mail) → is_had has_id ids t ≡ true → is_suspect_card m n turn t.placed.card.id ≡ true
      suspect t h =
          let id = any_found (λ id. has_id id t) ids h in
          ap (is_suspect_card m n turn) (sym ((bytes_decides id.it t.placed.card.id).0 id.passes))
          ∙ among_all (λ id. is_suspect_card m n turn id ≡ true) id.it ids a id.among

  -- to take out different rows that fall due
  pub draining_fits : (uids : List ℕ) → IsDistinct nat_eq uids
      → AllByRecursion (λ uid. uid_falls_due m n.now uid ≡ true) uids
      → length uids ≤ length (cards_in m n held)
  draining_fits uids d a =
      let few = found_count nat_eq falls one_of_uid (contents m) uids d (each uids a) in
      let held_of = sum_more (λ t. 1) (is_had falls uids) (is_in_any m held) (contents m) (λ t there h. held_before t there (suspect t there h)) in
      let counted = ones (filter (is_had falls uids) (contents m)) in
      omega (arith, few, held_of, counted, ones (cards_of m held), before_counted m n held k)
    where
      falls : ℕ → Mail → Bool
      falls uid t = (t.placed.uid == uid) && is_due m n.now t

      one_of_uid : (a b : ℕ) (t : Mail) → falls a t ≡ true → falls b t ≡ true → nat_eq a b ≡ true
      one_of_uid a b t h k =
          let one = (and_parts (t.placed.uid == a) (is_due m n.now t) h).0 in
          let other = (and_parts (t.placed.uid == b) (is_due m n.now t) k).0 in
          eq-eqb a b (sym (eqb-true t.placed.uid a one) ∙ eqb-true t.placed.uid b other)

      each : (uids : List ℕ) → AllByRecursion (λ uid. uid_falls_due m n.now uid ≡ true) uids
          → AllByRecursion (λ uid. list_any (falls uid) (contents m) ≡ true) uids
      each [] a = tt
      each (uid ∷ uids) a = (by (find (λ t. t.placed.uid == uid) (contents m)) refl a.0, each uids a.1)
        where
          by : (o : Option Mail) → find (λ t. t.placed.uid == uid) (contents m) ≡ o → option_map_or (is_due m n.now) o false ≡ true → list_any (falls uid) (contents m) ≡ true
          by None e h = absurd (false≢true h)
          by (Some t) e h =
              found_any (falls uid) t (contents m) (found_among (λ t. t.placed.uid == uid) (contents m) t e)
              (and_from (t.placed.uid == uid) (is_due m n.now t) (found_passes (λ t. t.placed.uid == uid) (contents m) t e) h)

      suspect : (t : Mail) → Among t (contents m) → is_had falls uids t ≡ true → is_suspect_card m n turn t.placed.card.id ≡ true
      suspect t there h =
          let uid = any_found (λ uid. falls uid t) uids h in
          by_clock m n turn t.placed.card.id
          (ap (λ o. option_map_or (is_due m n.now) o false) (found_by_id m t there) ∙ (and_parts (t.placed.uid == uid.it) (is_due m n.now t) uid.passes).1)

-- ---- all of these, after a change

module _ (m : Mailbox) (change : Change) (k : IsMailbox m) (valid : IsValidChange change) (room : full m change ≡ false) where
  abbrev left : Mailbox
  left = after m change

  abbrev touched : List ChatKey
  touched = touched_keys m left (turn m change)

  pub change_fits : (ids : List Bytes) (keys : List ChatKey) (uids : List ℕ) → IsDistinct bytes_eq ids
      → AllByRecursion (λ id. is_suspect_card m left (turn m change) id ≡ true) ids → IsDistinct key_eq keys → AreHeld touched keys
      → IsDistinct nat_eq uids
      → AllByRecursion (λ uid. uid_falls_due m left.now uid ≡ true) uids
      → sum_by (settle_reads m left) ids + sum_by (λ key. length (chat_mails left key)) keys + length uids + 16 ≤ change_cost m change
  change_fits ids keys uids once suspects distinct among apart due =
      let me = same_me m change in
      let l = change_keeps m change k valid room in
      let is = turn_law m change k.uids in
      let all = touched_held m left (turn m change) me is in
      let settled = settling_fits m left (turn m change) me k l is touched all ids once suspects in
      let folded = folding_fits m left keys touched distinct among in
      let drained = draining_fits m left (turn m change) me k l is touched all uids apart due in
      omega (arith, settled, folded, drained)
