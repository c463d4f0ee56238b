-- What building all anew reads grows, from a mailbox to the next, by no more than the change costs.
use Rattle.std.proofs.Common.{◌≡◌, refl, sym, ap, ◌∙◌, ℕ, suc, ◌+◌, ◌≤◌, Bool, true, false, not, ◌||◌, ◌&&◌, Some, None, List, [], ◌∷◌, length, map, arith}
use Rattle.std.specs.Prelude.{filter, find, sum_by}
use Rattle.std.specs.List.{list_any, AllByRecursion, IsDistinct}
use Rattle.std.specs.Option.{option_map_or}
use Rattle.std.proofs.lemmas.Bool.{or_parts, or_left, not-true}
use Rattle.std.proofs.lemmas.List.{length-map}
use Rattle.std.proofs.lemmas.List.Sums.{length-filter}
use Rattle.std.proofs.lemmas.List.Sorted.{length_permutation}
use Rattle.lists.proofs.DistinctLaws.{IsDistinct-filter}
use Rattle.lists.proofs.OneMore.{none_among}
use Rattle.card_type.specs.declared.key.ChatKey.{ChatKey}
use Rattle.card_type.specs.Effects.{is_among, names}
use Rattle.mailbox_model.specs.declared.change.Change.{Change}
use Rattle.mailbox_model.specs.declared.turn.Turn.{Turn}
use Rattle.mailbox_model.specs.declared.turn.Turn.TheVariants.{Nothing, Add, Remove, Replace, Marked, Moved}
use Rattle.mailbox_model.specs.Lists.{Bytes}
use Rattle.mailbox_model.specs.Mailbox.{Mailbox, after, after_all, full, AreAllowed, IsMailbox, IsValidChange}
use Rattle.mailbox_model.specs.Present.{Mail, has_id, mail_cmp, same_id, present, contents}
use Rattle.mailbox_model.specs.Turns.{is_mail, mark_mail, turn, with_mail, IsTurn}
use Rattle.mailbox_model.proofs.PresentLaws.{permuted-insert_by, present_once}
use Rattle.mailbox_model.proofs.RuleLaws.{change_keeps}
use Rattle.mailbox_model.proofs.TurnLaws.{turn_law}
use Rattle.touched_chats.specs.Touched.{HoldsTouched}
use Rattle.touched_chats.specs.Suspects.{falls_due, has_moved, is_about, is_suspect_card, is_told, turned}
use Rattle.touched_chats.specs.Costs.{build_reads, by_uid, cards_in, change_cost, change_costs, citing_unsettled, is_in_any, pairs_of, repair_cost, row_reads, times_named_among, touched_keys}
use Rattle.touched_chats.proofs.Among.{Among, all_among, passing_among}
use Rattle.touched_chats.proofs.Beside.{same_passing}
use Rattle.touched_chats.proofs.CardStaying.{card_stays, unlike}
use Rattle.touched_chats.proofs.CardsOfSuspects.{found_by_id}
use Rattle.touched_chats.proofs.Counts.{alike_sum, found_sum, is_had, split_sum, sum_more}
use Rattle.touched_chats.proofs.Covered.{All-weaker}
use Rattle.touched_chats.proofs.Lists.{each_not, filter-map}
use Rattle.touched_chats.proofs.Marking.{filter_marked, same_card}
use Rattle.touched_chats.proofs.Near.{is_content_mail}
use Rattle.touched_chats.proofs.Refolds.{cards_counted, each_read}
use Rattle.touched_chats.proofs.Repairs.{held_after, one_id}
use Rattle.touched_chats.proofs.Staying.{same_me}
use Rattle.touched_chats.proofs.TouchedKeys.{touched_held}
use Rattle.touched_chats.proofs.Turned.{first_uid, is_of, none_turned, not_came, not_left, passing, second_uid}

-- ---- the mails that pass a test which no mail of the turn passes

module _ (m n : Mailbox) (p : Mail → Bool) (by_card : (uid now : ℕ) (t : Mail) → p (mark_mail uid now t) ≡ p t) where
  passing_stay : (turn : Turn) → IsTurn m n turn → list_any p (turned m n turn) ≡ false → filter p (present m) ≡ filter p (present n)
  passing_stay Nothing is none = same_passing m n None None (present m) refl is.present p tt tt
  passing_stay (Add at) is none =
      let t = is.present.0 in
      let new = not_came m n (Add at) p none t (present m) (first_uid at.uid [] t (ap (λ s. s.uid) is.present.1)) is.present.2 in
      same_passing m n None (Some t) (present m) refl is.present.2 p tt new
  passing_stay (Remove at) is none =
      let t = is.present.0 in
      let old = not_left m n (Remove at) p none t (present n) (first_uid at.uid [] t (ap (λ s. s.uid) is.present.1)) is.present.2 in
      same_passing m n (Some t) None (present n) is.present.2 refl p old tt
  passing_stay (Replace from to) is none =
      let t = is.present.0 in
      let u = is.present.1 in
      let both = is.present.4 in
      let old = not_left m n (Replace from to) p none t both.others (first_uid from.uid (to.uid ∷ []) t (ap (λ s. s.uid) is.present.2)) both.first in
      let new = not_came m n (Replace from to) p none u both.others (second_uid from.uid to.uid u (ap (λ s. s.uid) is.present.3)) both.second in
      same_passing m n (Some t) (Some u) both.others both.first both.second p old new
  passing_stay (Marked uid) is none =
      sym (ap (filter p) is.present.4
      ∙ filter_marked uid m.now p (by_card uid m.now) (present m)
      (fails (present m) (each_not (λ t. is_of (Marked uid) t && p t) (present m) (none_turned m n (Marked uid) p none).0)))
    where
      fails : (ts : List Mail) → AllByRecursion (λ t. (is_of (Marked uid) t && p t) ≡ false) ts
          → AllByRecursion (λ t. is_mail uid t ≡ true → p t ≡ false) ts
      fails [] a = tt
      fails (t ∷ ts) a = (λ e. passing (is_of (Marked uid) t) (p t) (or_left (is_mail uid t) false e) a.0, fails ts a.1)
  passing_stay (Moved moment) is none = ap (filter p) (sym is.present)

-- how many name an id of which no mail of the turn tells
named_stay : (m n : Mailbox) (turn : Turn) → IsTurn m n turn → (id : Bytes) → is_told m n turn id ≡ false
    → times_named_among (present n) id ≡ times_named_among (present m) id
named_stay m n turn is id untold =
    counted (present n) ∙ ap length (sym (passing_stay m n names_it (λ uid now t i. is_among (names (same_card uid now t i).card) id) turn is none))
    ∙ sym (counted (present m))
  where
    names_it : Mail → Bool
    names_it t = is_among (names t.placed.card) id

    none : list_any names_it (turned m n turn) ≡ false
    none =
        none_among names_it (turned m n turn)
        (All-weaker (λ t. is_about id t ≡ false) (λ t. names_it t ≡ false) (λ t h. (unlike id t h).1) (turned m n turn)
        (each_not (is_about id) (turned m n turn) untold))

    counted : (ts : List Mail) → times_named_among ts id ≡ length (filter names_it ts)
    counted ts =
        sym (length-filter (λ e. is_among (names e.card) id) (map (λ t. t.placed) ts))
        ∙ ap length (filter-map (λ e. is_among (names e.card) id) (λ t. t.placed) ts)
        ∙ length-map (filter names_it ts) (λ t. t.placed)

-- ---- no more than one mail comes

one_longer : (t : Mail) (ts : List Mail) → length (with_mail t ts) ≡ suc (length ts)
one_longer t ts = length_permutation (t ∷ ts) (with_mail t ts) (permuted-insert_by mail_cmp t ts)

few_come : (m n : Mailbox) (turn : Turn) → IsTurn m n turn → length (present n) ≤ length (present m) + 1
few_come m n Nothing is = omega (arith, ap length is.present)
few_come m n (Add at) is = omega (arith, ap length is.present.2, one_longer is.present.0 (present m))
few_come m n (Remove at) is = omega (arith, ap length is.present.2, one_longer is.present.0 (present n))
few_come m n (Replace from to) is =
    let both = is.present.4 in
    omega (arith, ap length both.first, ap length both.second, one_longer is.present.0 both.others, one_longer is.present.1 both.others)
few_come m n (Marked uid) is = omega (arith, ap length is.present.4, length-map (present m) (mark_mail uid m.now))
few_come m n (Moved moment) is = omega (arith, ap length is.present)

-- ---- suspect cards are those of touched chats, and the others are read as before

module _ (m n : Mailbox) (turn : Turn) (me : m.me ≡ n.me) (k : IsMailbox m) (l : IsMailbox n) (is : IsTurn m n turn)
    (held : List ChatKey) (all : HoldsTouched m n held) where
  abbrev suspect : Mail → Bool
  suspect t = is_suspect_card m n turn t.placed.card.id

  abbrev others : List Mail
  others = filter (λ t. not (suspect t)) (contents n)

  suspects_read : sum_by (row_reads n) (filter suspect (contents n))
      ≤ length (cards_in m n held) + pairs_of m n (by_uid (cards_in m n held) (citing_unsettled m n))
  suspects_read =
      let more = sum_more (row_reads n) suspect (is_in_any n held) (contents n) (held_after m n turn me k l is held all) in
      omega (arith, more, each_read m n held, cards_counted m n held)

  others_read : sum_by (row_reads n) others ≤ sum_by (row_reads m) (contents m)
  others_read =
      let alike = alike_sum (row_reads n) before others (all_among (λ t. row_reads n t ≡ before t) others each) in
      let found = found_sum same_id same_id (λ a b t. one_id a.placed.card.id b.placed.card.id t) (row_reads m) (contents m) others once in
      let split = split_sum (row_reads m) (is_had same_id others) (contents m) in
      omega (arith, alike, found, split)
    where
      before : Mail → ℕ
      before t = option_map_or (row_reads m) (find (same_id t) (contents m)) 0

      once : IsDistinct same_id others
      once =
          IsDistinct-filter same_id (λ t. not (suspect t)) (contents n)
          (IsDistinct-filter same_id is_content_mail (present n) (present_once n))

      each : (t : Mail) → Among t others → row_reads n t ≡ before t
      each t there =
          let id = t.placed.card.id in
          let here = passing_among (λ t. not (suspect t)) t (contents n) there in
          let calm = not-true (suspect t) here.1 in
          let untold = (or_parts (is_told m n turn id) (falls_due m n.now id) (or_parts (has_moved m n id) (is_told m n turn id || falls_due m n.now id) calm).1).0 in
          let found : find (has_id id) (contents m) ≡ Some t = (card_stays m n turn id me is calm).mail ∙ found_by_id n t here.0 in
          ap (λ k. 1 + k) (named_stay m n turn is id untold) ∙ sym (ap (λ o. option_map_or (row_reads m) o 0) found)

  build_grows : build_reads n ≤ build_reads m + repair_cost m n held
  build_grows =
      omega (arith, split_sum (row_reads n) suspect (contents n), suspects_read, others_read, few_come m n turn is)

-- ---- after a change, and after several

pub build_after : (m : Mailbox) (change : Change) → IsMailbox m → IsValidChange change → full m change ≡ false
    → build_reads (after m change) ≤ build_reads m + change_cost m change
build_after m change k valid room =
    let n = after m change in
    let me = same_me m change in
    let is = turn_law m change k.uids in
    build_grows m n (turn m change) me k (change_keeps m change k valid room) is (touched_keys m n (turn m change)) (touched_held m n (turn m change) me is)

pub build_after_all : (m : Mailbox) (changes : List Change) → IsMailbox m → AreAllowed m changes
    → build_reads (after_all m changes) ≤ build_reads m + change_costs m changes
build_after_all m [] k allowed = omega arith
build_after_all m (change ∷ changes) k allowed =
    let first = build_after m change k allowed.0 allowed.1 in
    let rest = build_after_all (after m change) changes (change_keeps m change k allowed.0 allowed.1) allowed.2 in
    omega (arith, first, rest)
