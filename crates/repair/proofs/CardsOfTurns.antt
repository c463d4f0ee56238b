-- The cards of the mails of a turn are those that its uids have, before or after.
use Rattle.std.proofs.Common.{◌≡◌, refl, sym, ap, ◌∙◌, ℕ, Bool, true, false, ◌||◌, ◌&&◌, Option, Some, None, Result, Ok, Err, List, [], ◌∷◌, ◌++◌}
use Rattle.std.specs.Prelude.{nat_eq}
use Rattle.std.specs.List.{list_any, AllByRecursion}
use Rattle.std.specs.Option.{option_and_then, option_map_or, option_or, option_to_list}
use Rattle.std.specs.Result.{result_ok}
use Rattle.std.proofs.Math.Bool.{or_assoc, or_comm, and-or_distrib_right}
use Rattle.std.proofs.lemmas.Bool.{and_from, or_left, or_right, eq-eqb, eqb-true}
use Rattle.std.proofs.lemmas.List.Folds.{list_any-append, list_any-from_Any}
use Rattle.kit.specs.Options.{◌>>=◌}
use Rattle.lists.proofs.Inserts.{list_any-insert_by}
use Rattle.card_type.specs.declared.card.Card.{Card}
use Rattle.mailbox_model.specs.declared.change.Fault.{Fault}
use Rattle.mailbox_model.specs.declared.turn.Turn.{Turn}
use Rattle.mailbox_model.specs.declared.turn.Turn.TheVariants.{Nothing, Add, Remove, Replace, Marked, Moved}
use Rattle.mailbox_model.specs.Mailbox.{Mailbox, Entry, IsMailbox, card_at, entry_at}
use Rattle.mailbox_model.specs.Present.{Mail, mail_at, mail_by, mail_of, mail_cmp, present}
use Rattle.mailbox_model.specs.Turns.{with_mail, IsTurn}
use Rattle.mailbox_model.proofs.Elements.{All-append}
use Rattle.mailbox_model.proofs.UidLaws.{present_own}
use Rattle.touched_chats.specs.Suspects.{turned, turned_uids}
use Rattle.touched_chats.proofs.Among.{any_found, found_any, among_all}
use Rattle.touched_chats.proofs.Covered.{All-weaker}
use Rattle.touched_chats.proofs.Lists.{any_passing}
use Rattle.touched_chats.proofs.Turned.{is_of}
use Rattle.indexes.proofs.Mails.{card_is}
use Rattle.repair.specs.Turned.{NameOneMail}

-- ---- tests

any_never : {X : Type 0} (xs : List X) → list_any (λ x. false) xs ≡ false
any_never [] = refl
any_never (x ∷ xs) = any_never xs

-- one of two tests
any_either : {X : Type 0} (p q : X → Bool) (xs : List X) → list_any (λ x. p x || q x) xs ≡ (list_any p xs || list_any q xs)
any_either p q [] = refl
any_either p q (x ∷ xs) =
    ap (λ b. (p x || q x) || b) (any_either p q xs) ∙ turned_round (p x) (q x) (list_any p xs) (list_any q xs)
  where
    turned_round : (a b c d : Bool) → ((a || b) || (c || d)) ≡ ((a || c) || (b || d))
    turned_round a b c d =
        or_assoc a b (c || d)
        ∙ ap (λ e. a || e) (sym (or_assoc b c d) ∙ ap (λ e. e || d) (or_comm b c) ∙ or_assoc c b d)
        ∙ sym (or_assoc a c (b || d))

-- all that pass one test are told alike by another
alike_any : {X : Type 0} (p q : X → Bool) (b : Bool) (xs : List X) → AllByRecursion (λ x. p x ≡ true → q x ≡ b) xs
    → list_any p xs ≡ true → list_any (λ x. p x && q x) xs ≡ b
alike_any {X} p q true xs a h =
    let some = any_found p xs h in
    found_any (λ x. p x && q x) some.it xs some.among
    (and_from (p some.it) (q some.it) some.passes (among_all (λ x. p x ≡ true → q x ≡ true) some.it xs a some.among some.passes))
alike_any {X} p q false xs a h = none xs a
  where
    none : (xs : List X) → AllByRecursion (λ x. p x ≡ true → q x ≡ false) xs → list_any (λ x. p x && q x) xs ≡ false
    none [] a = refl
    none (x ∷ xs) a = by (p x) a.0 (none xs a.1)
      where
        by : (c : Bool) → (c ≡ true → q x ≡ false) → list_any (λ x. p x && q x) xs ≡ false
            → ((c && q x) || list_any (λ x. p x && q x) xs) ≡ false
        by true one rest = rw (one refl) rest
        by false one rest = rest

-- ---- the mail of a card

read_mail : (r : Result Card Fault) (e : Entry) (card : Card) → result_ok r ≡ Some card
    → (t : Mail) × (mail_by e r ≡ Some t) × (t.placed.card ≡ card)
read_mail (Ok other) e card h = (_, refl, cc)
read_mail (Err fault) e card h = cc

mail_with : (m : Mailbox) (uid : ℕ) (card : Card) → card_at m uid ≡ Some card
    → (t : Mail) × (mail_at m uid ≡ Some t) × (t.placed.card ≡ card)
mail_with m uid card h = by (entry_at m uid) h
  where
    by : (o : Option Entry) → (o >>= λ entry. result_ok entry.read) ≡ Some card
        → (t : Mail) × ((o >>= mail_of) ≡ Some t) × (t.placed.card ≡ card)
    by None h = cc
    by (Some e) h = read_mail e.read e card h

-- ---- the cards of uids

abbrev with_uid : ℕ → Mail → Bool
with_uid uid t = nat_eq t.placed.uid uid

module _ (m n : Mailbox) where
  abbrev both : List Mail
  both = present m ++ present n

  -- the card of a uid, before or after
  abbrev pub read : ℕ → Option Card
  read uid = option_or (card_at m uid) (card_at n uid)

  abbrev IsThere : ℕ → Type 0
  IsThere uid = list_any (with_uid uid) both ≡ true

  in_first : (p : Mail → Bool) (t : Mail) (ts : List Mail) → present m ≡ with_mail t ts → p t ≡ true → list_any p both ≡ true
  in_first p t ts is h =
      list_any-append p (present m) (present n)
      ∙ or_left (list_any p (present m)) (list_any p (present n))
      (ap (list_any p) is ∙ list_any-insert_by mail_cmp p t ts ∙ or_left (p t) (list_any p ts) h)

  in_second : (p : Mail → Bool) (t : Mail) (ts : List Mail) → present n ≡ with_mail t ts → p t ≡ true → list_any p both ≡ true
  in_second p t ts is h =
      list_any-append p (present m) (present n)
      ∙ or_right (list_any p (present m)) (list_any p (present n))
      (ap (list_any p) is ∙ list_any-insert_by mail_cmp p t ts ∙ or_left (p t) (list_any p ts) h)

  -- each uid of a turn is that of a mail that was there or is
  each_there : (turn : Turn) → IsTurn m n turn → AllByRecursion IsThere (turned_uids turn)
  each_there Nothing is = tt
  each_there (Add at) is =
      let t = is.present.0 in
      (in_second (with_uid at.uid) t (present m) is.present.2 (eq-eqb t.placed.uid at.uid (ap (λ s. s.uid) is.present.1)), tt)
  each_there (Remove at) is =
      let t = is.present.0 in
      (in_first (with_uid at.uid) t (present n) is.present.2 (eq-eqb t.placed.uid at.uid (ap (λ s. s.uid) is.present.1)), tt)
  each_there (Replace from to) is =
      let t = is.present.0 in
      let u = is.present.1 in
      let replaced = is.present.4 in (
        in_first (with_uid from.uid) t replaced.others replaced.first (eq-eqb t.placed.uid from.uid (ap (λ s. s.uid) is.present.2)),
        (in_second (with_uid to.uid) u replaced.others replaced.second (eq-eqb u.placed.uid to.uid (ap (λ s. s.uid) is.present.3)), tt),
      )
  each_there (Marked uid) is =
      let t = is.present.0 in
      let among = is.present.1 in
      let marked = list_any-from_Any (with_uid uid) (present m) (among.0, t, among.1, among.2, eq-eqb t.placed.uid uid is.present.2) in
      (list_any-append (with_uid uid) (present m) (present n) ∙ or_left _ (list_any (with_uid uid) (present n)) marked, tt)
  each_there (Moved moment) is = tt

  module _ (rules : IsMailbox m) (left : IsMailbox n) (one : NameOneMail m n) where
    abbrev Reads : Mail → Type 0
    Reads t = read t.placed.uid ≡ Some t.placed.card

    before_reads : (t : Mail) → mail_at m t.placed.uid ≡ Some t → Reads t
    before_reads t h = ap (λ o. option_or o (card_at n t.placed.uid)) (card_is m t.placed.uid t h)

    after_reads : (t : Mail) → mail_at n t.placed.uid ≡ Some t → Reads t
    after_reads t h = by (card_at m t.placed.uid) refl
      where
        by : (o : Option Card) → card_at m t.placed.uid ≡ o → option_or o (card_at n t.placed.uid) ≡ Some t.placed.card
        by None e = card_is n t.placed.uid t h
        by (Some card) e =
            let was = mail_with m t.placed.uid card e in
            ap Some (sym was.2 ∙ one t.placed.uid was.0 t was.1 h)

    each_reads : AllByRecursion Reads both
    each_reads =
        All-append Reads (present m) (present n)
        (All-weaker (λ t. mail_at m t.placed.uid ≡ Some t) Reads before_reads (present m) (present_own m rules.uids))
        (All-weaker (λ t. mail_at n t.placed.uid ≡ Some t) Reads after_reads (present n) (present_own n left.uids))

    module _ (q : Card → Bool) where
      abbrev passes : Mail → Bool
      passes t = q t.placed.card

      -- what the card of a uid passes
      abbrev read_passes : ℕ → Bool
      read_passes uid = option_map_or q (read uid) false

      by_uid : (uid : ℕ) → IsThere uid → list_any (λ t. with_uid uid t && passes t) both ≡ read_passes uid
      by_uid uid there =
          alike_any (with_uid uid) passes (read_passes uid) both
          (All-weaker Reads (λ t. with_uid uid t ≡ true → passes t ≡ read_passes uid) same both each_reads) there
        where
          same : (t : Mail) → Reads t → with_uid uid t ≡ true → passes t ≡ read_passes uid
          same t reads own = sym (ap (λ o. option_map_or q o false) (ap read (sym (eqb-true t.placed.uid uid own)) ∙ reads))

      by_uids : (uids : List ℕ) → AllByRecursion IsThere uids
          → list_any (λ t. list_any (nat_eq t.placed.uid) uids && passes t) both ≡ list_any read_passes uids
      by_uids [] a = any_never both
      by_uids (uid ∷ uids) a =
          (λ i. list_any (λ t. and-or_distrib_right (with_uid uid t) (list_any (nat_eq t.placed.uid) uids) (passes t) i) both)
          ∙ any_either (λ t. with_uid uid t && passes t) (λ t. list_any (nat_eq t.placed.uid) uids && passes t) both
          ∙ (λ i. by_uid uid a.0 i || by_uids uids a.1 i)

      -- the card of a uid that may be missing
      read_alone : (uid : Option ℕ) → list_any read_passes (option_to_list uid) ≡ list_any q (option_to_list (option_and_then read uid))
      read_alone None = refl
      read_alone (Some uid) = by (read uid)
        where
          by : (o : Option Card) → (option_map_or q o false || false) ≡ list_any q (option_to_list o)
          by None = refl
          by (Some card) = refl

      pub turned_pass : (turn : Turn) (first second : Option ℕ) → IsTurn m n turn
          → option_to_list first ++ option_to_list second ≡ turned_uids turn
          → list_any passes (turned m n turn)
          ≡ list_any q (option_to_list (option_and_then read first) ++ option_to_list (option_and_then read second))
      turned_pass turn first second is uids =
          any_passing passes (is_of turn) both ∙ by_uids (turned_uids turn) (each_there turn is) ∙ ap (list_any read_passes) (sym uids)
          ∙ list_any-append read_passes (option_to_list first) (option_to_list second)
          ∙ (λ i. read_alone first i || read_alone second i)
          ∙ sym (list_any-append q (option_to_list (option_and_then read first)) (option_to_list (option_and_then read second)))
