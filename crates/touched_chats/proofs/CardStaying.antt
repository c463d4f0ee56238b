-- A card that is not suspect stays.
use Rattle.std.proofs.Common.{◌≡◌, refl, sym, ap, ◌∙◌, subst, ℕ, ◌≤◌, Bool, true, false, ◌||◌, ◌&&◌, cond, Option, Some, None, List, [], ◌∷◌, map, arith}
use Rattle.std.specs.Prelude.{IfSome, filter, find}
use Rattle.std.specs.List.{AllByRecursion}
use Rattle.std.specs.Option.{option_eq, option_map_or}
use Rattle.std.specs.Str.{bytes_eq}
use Rattle.std.specs.Cmp.Lexicographic.{bytes_decides}
use Rattle.std.proofs.lemmas.Bool.{or_parts, or_left, and_right, not-false}
use Rattle.lists.proofs.Inserts.{find-filter}
use Rattle.card_type.specs.Effects.{is_among, names}
use Rattle.card_type.specs.Keys.{key_eq}
use Rattle.card_type.specs.Kinds.{kind_of, is_content}
use Rattle.mailbox_model.specs.declared.change.Change.{Change}
use Rattle.mailbox_model.specs.declared.turn.Turn.{Turn}
use Rattle.mailbox_model.specs.declared.turn.Turn.TheVariants.{Nothing, Add, Remove, Replace, Marked, Moved}
use Rattle.mailbox_model.specs.Lists.{Bytes}
use Rattle.mailbox_model.specs.Mailbox.{Mailbox, after, IsMailbox}
use Rattle.mailbox_model.specs.Present.{Mail, has_id, present, contents}
use Rattle.mailbox_model.specs.Turns.{is_mail, mark_mail, turn, IsTurn}
use Rattle.mailbox_model.specs.Chats.{chat}
use Rattle.mailbox_model.specs.Frames.{IsCardAlike}
use Rattle.mailbox_model.specs.Rows.{acting, acts_on, is_expired, row}
use Rattle.mailbox_model.proofs.FrameLaws.{row_alike}
use Rattle.mailbox_model.proofs.TurnLaws.{turn_law}
use Rattle.touched_chats.specs.Suspects.{is_due, has_moved, is_about, is_told, falls_due, is_suspect_card, CardStays}
use Rattle.touched_chats.proofs.Lists.{each_not, filter_both}
use Rattle.touched_chats.proofs.Turned.{is_of, first_uid, second_uid, passing, none_turned, not_left, not_came}
use Rattle.touched_chats.proofs.Moving.{one_key}
use Rattle.touched_chats.proofs.Near.{is_content_mail}
use Rattle.touched_chats.proofs.Beside.{with_maybe, each_of, same_passing, beside_acting}
use Rattle.touched_chats.proofs.Marking.{same_card, filter_marked, cards}
use Rattle.touched_chats.proofs.Clock.{moved_row}
use Rattle.touched_chats.proofs.Staying.{same_me}

-- ---- what is found

found_alike : {X : Type 0} (p : X → Bool) (xs ys : List X) → filter p xs ≡ filter p ys → find p xs ≡ find p ys
found_alike p xs ys e = sym (find-filter p p (λ x h. h) xs) ∙ ap (find p) e ∙ find-filter p p (λ x h. h) ys

found_each : {X : Type 0} (P : X → Type 0) (p : X → Bool) (xs : List X) → ((x : X) → p x ≡ true → P x) → IfSome (find p xs) P
found_each P p [] h = tt
found_each {X} P p (x ∷ xs) h = by (p x) refl (found_each P p xs h)
  where
    by : (b : Bool) → p x ≡ b → IfSome (find p xs) P → IfSome (cond b (Some x) (find p xs)) P
    by true e rest = h x e
    by false e rest = rest

abbrev is_content_with : Bytes → Mail → Bool
is_content_with id t = is_content_mail t && has_id id t

-- a mail that is not about an id does not have it, nor names it
pub unlike : (id : Bytes) (t : Mail) → is_about id t ≡ false → (has_id id t ≡ false) × (is_among (names t.placed.card) id ≡ false)
unlike id t h = or_parts (has_id id t) (is_among (names t.placed.card) id) h

-- ---- by the turn

module _ (m n : Mailbox) (id : Bytes) (me : m.me ≡ n.me) (same : chat m id ≡ chat n id) where
  same_found : filter (is_content_with id) (present m) ≡ filter (is_content_with id) (present n)
      → find (has_id id) (contents m) ≡ find (has_id id) (contents n)
  same_found e =
      found_alike (has_id id) (contents m) (contents n)
      (filter_both (has_id id) is_content_mail (present m) ∙ e ∙ sym (filter_both (has_id id) is_content_mail (present n)))

  found_row : ((t : Mail) → id ≡ t.placed.card.id → IsCardAlike m n t) → IfSome (find (has_id id) (contents m)) (λ t. row m t ≡ row n t)
  found_row h =
      found_each (λ t. row m t ≡ row n t) (has_id id) (contents m)
      (λ t e. row_alike m n me t (h t ((bytes_decides id t.placed.card.id).0 e)))

  -- one comes, or leaves, or one comes in place of another
  beside_card : (a b : Option Mail) (others : List Mail) → present m ≡ with_maybe a others → present n ≡ with_maybe b others → m.now ≡ n.now
      → IfSome a (λ t. is_about id t ≡ false) → IfSome b (λ t. is_about id t ≡ false) → CardStays m n id
  beside_card a b others before after clock old new =
      record {
        mail = same_found (same_passing m n a b others before after (is_content_with id) (each_of apart a old) (each_of apart b new));
        chat = same;
        row = found_row (λ t is. record { acts = acts t is; expired = λ _ i. is_expired (me i) (clock i) t });
      }
    where
      apart : (t : Mail) → is_about id t ≡ false → is_content_with id t ≡ false
      apart t h = and_right (is_content_mail t) (has_id id t) (unlike id t h).0

      unnamed : (t : Mail) → id ≡ t.placed.card.id → (x : Mail) → is_about id x ≡ false → is_among (names x.placed.card) t.placed.card.id ≡ false
      unnamed t is x h = subst (λ i. is_among (names x.placed.card) i ≡ false) is (unlike id x h).1

      acts : (t : Mail) → id ≡ t.placed.card.id → acting m t.placed.card ≡ acting n t.placed.card
      acts t is = beside_acting m n a b others before after me t.placed.card (each_of (unnamed t is) a old) (each_of (unnamed t is) b new)

  -- another one is marked
  marked_card : (uid now : ℕ) → present n ≡ map (mark_mail uid now) (present m) → m.now ≡ n.now
      → AllByRecursion (λ t. is_mail uid t ≡ true → has_id id t ≡ false) (present m) → CardStays m n id
  marked_card uid now after clock apart =
      record {
        mail = same_found (sym (ap (filter (is_content_with id)) after ∙ unmarked));
        chat = same;
        row = found_row (λ t is. record { acts = λ i. acts_on (me i) t.placed.card (cards uid now m n after i); expired = λ _ i. is_expired (me i) (clock i) t });
      }
    where
      alike : (t : Mail) → is_content_with id (mark_mail uid now t) ≡ is_content_with id t
      alike t i = is_content (kind_of (same_card uid now t i).card) && bytes_eq id (same_card uid now t i).card.id

      fails : (ts : List Mail) → AllByRecursion (λ t. is_mail uid t ≡ true → has_id id t ≡ false) ts
          → AllByRecursion (λ t. is_mail uid t ≡ true → is_content_with id t ≡ false) ts
      fails [] a = tt
      fails (t ∷ ts) a = (λ e. and_right (is_content_mail t) (has_id id t) (a.0 e), fails ts a.1)

      unmarked : filter (is_content_with id) (map (mark_mail uid now) (present m)) ≡ filter (is_content_with id) (present m)
      unmarked = filter_marked uid now (is_content_with id) alike (present m) (fails (present m) apart)

  -- time goes on
  later_card : present m ≡ present n → m.now ≤ n.now → falls_due m n.now id ≡ false → CardStays m n id
  later_card there later due = record {
    mail = λ i. find (has_id id) (filter is_content_mail (there i));
    chat = same;
    row = by (find (has_id id) (contents m)) due;
  }
    where
      by : (o : Option Mail) → option_map_or (is_due m n.now) o false ≡ false → IfSome o (λ t. row m t ≡ row n t)
      by None h = tt
      by (Some t) h = moved_row m n me there later t h

  by_turn : (turn : Turn) → IsTurn m n turn → is_told m n turn id ≡ false → falls_due m n.now id ≡ false → CardStays m n id
  by_turn Nothing is none due = beside_card None None (present m) refl is.present (sym is.clock) tt tt
  by_turn (Add at) is none due =
      let t = is.present.0 in
      let new = not_came m n (Add at) (is_about id) none t (present m) (first_uid at.uid [] t (ap (λ s. s.uid) is.present.1)) is.present.2 in
      beside_card None (Some t) (present m) refl is.present.2 (sym is.clock) tt new
  by_turn (Remove at) is none due =
      let t = is.present.0 in
      let old = not_left m n (Remove at) (is_about id) none t (present n) (first_uid at.uid [] t (ap (λ s. s.uid) is.present.1)) is.present.2 in
      beside_card (Some t) None (present n) is.present.2 refl (sym is.clock) old tt
  by_turn (Replace from to) is none due =
      let t = is.present.0 in
      let u = is.present.1 in
      let both = is.present.4 in
      let old = not_left m n (Replace from to) (is_about id) none t both.others (first_uid from.uid (to.uid ∷ []) t (ap (λ s. s.uid) is.present.2)) both.first in
      let new = not_came m n (Replace from to) (is_about id) none u both.others (second_uid from.uid to.uid u (ap (λ s. s.uid) is.present.3)) both.second in
      beside_card (Some t) (Some u) both.others both.first both.second (sym is.clock) old new
  by_turn (Marked uid) is none due =
      marked_card uid m.now is.present.4 (sym is.clock) (apart (present m) (each_not (λ t. is_of (Marked uid) t && is_about id t) (present m) (none_turned m n (Marked uid) (is_about id) none).0))
    where
      apart : (ts : List Mail) → AllByRecursion (λ t. (is_of (Marked uid) t && is_about id t) ≡ false) ts
          → AllByRecursion (λ t. is_mail uid t ≡ true → has_id id t ≡ false) ts
      apart [] a = tt
      apart (t ∷ ts) a = (λ e. (unlike id t (passing (is_of (Marked uid) t) (is_about id t) (or_left (is_mail uid t) false e) a.0)).0, apart ts a.1)
  by_turn (Moved moment) is none due =
      let later : m.now ≤ n.now = let lt = is.clock.0 in let e = is.clock.1 in omega (arith, lt, e) in
      later_card (sym is.present) later due

-- one that has not moved is in the same chat
pub unmoved_card : (m n : Mailbox) (id : Bytes) → has_moved m n id ≡ false → chat m id ≡ chat n id
unmoved_card m n id h = one_key (chat m id) (chat n id) (not-false (option_eq key_eq (chat m id) (chat n id)) h)

pub card_stays : (m n : Mailbox) (turn : Turn) (id : Bytes) → m.me ≡ n.me → IsTurn m n turn → is_suspect_card m n turn id ≡ false → CardStays m n id
card_stays m n turn id me is h =
    let moves = or_parts (has_moved m n id) (is_told m n turn id || falls_due m n.now id) h in
    let rest = or_parts (is_told m n turn id) (falls_due m n.now id) moves.1 in
    by_turn m n id me (unmoved_card m n id moves.0) turn is rest.0 rest.1

pub card_change_stays : (m : Mailbox) (change : Change) (id : Bytes) → IsMailbox m
    → is_suspect_card m (after m change) (turn m change) id ≡ false → CardStays m (after m change) id
card_change_stays m change id k h =
    card_stays m (after m change) (turn m change) id (same_me m change) (turn_law m change k.uids) h
