-- Mailboxes that have the same cards have one list of present mails, but for their numbers.
use Rattle.std.proofs.Common.{◌≡◌, refl, sym, ap, ◌∙◌, subst, ℕ, ◌≤◌, true, false, not, Option, Some, None, Result, Ok, Err, List, [], ◌∷◌, map, arith}
use Rattle.std.specs.Prelude.{filter, filter_map, option_map, IfOk, unwrap_or}
use Rattle.std.specs.List.{AllByRecursion, IsDistinct, cons_option}
use Rattle.std.specs.List.Sorted.{IsStrictlySortedBy, IsPermutation}
use Rattle.std.specs.declared.cmp.Ordering.{Ordering}
use Rattle.std.specs.declared.cmp.Ordering.TheVariants.{Less, Equal, Greater}
use Rattle.std.specs.Ordering.{nat_cmp, is_eq, ordering_then}
use Rattle.std.specs.Cmp.Lexicographic.{slice_cmp}
use Rattle.std.proofs.lemmas.Map.Keys.{IsDistinct-IsPermutation}
use Rattle.std.proofs.lemmas.Map.Text.{is_eq-slice_cmp}
use Rattle.std.proofs.lemmas.List.Sorted.{IsPermutation-map, IsPermutation-sym, IsPermutation-trans}
use Rattle.lists.specs.Distinct.{firsts}
use Rattle.lists.proofs.Inserts.{none_filtered}
use Rattle.card_type.specs.declared.card.Card.{Card}
use Rattle.card_type.specs.declared.key.ChatKey.{ChatKey}
use Rattle.mailbox_model.specs.declared.change.Fault.{Fault}
use Rattle.mailbox_model.specs.Lists.{Bytes}
use Rattle.mailbox_model.specs.Mailbox.{Mailbox, Entry}
use Rattle.mailbox_model.specs.Present.{Mail, effective_date, mail_by, mail_of, mail_cmp, mails, same_id, present}
use Rattle.mailbox_model.specs.Pages.{page}
use Rattle.mailbox_model.specs.ChatList.{list_page}
use Rattle.mailbox_model.specs.Answers.{answer}
use Rattle.mailbox_model.specs.Answers.Question.{AllChats, AllContacts, AllUpdates, InfoUpdates}
use Rattle.mailbox_model.specs.Printed.{list_text, contacts_text}
use Rattle.mailbox_model.specs.Contacts.{contacts_by}
use Rattle.mailbox_model.proofs.MailLaws.{order, is_alike}
use Rattle.mailbox_model.proofs.PresentLaws.{mails_all}
use Rattle.model_laws.specs.Numbers.{unnumbered}
use Rattle.model_laws.specs.SameCards.{CardSeen, card_seen, cards_seen, same_card_id, IsDatedBy, AreDated, HaveSameCards}
use Rattle.model_laws.proofs.Numbers.{bare, page_bare, list_bare, cards_bare, all_updates_bare, info_updates_bare}
use Rattle.model_laws.proofs.Parts.{page_in, list_rows_in, cards_in, answer_in}
use Rattle.model_laws.proofs.OneOrder.{one_order}
use Rattle.model_laws.proofs.InOrder.{strict_order, mails_in_order}

-- ---- the mails of a mailbox, over its cards and when each was seen

abbrev seen_of : Mail → CardSeen
seen_of t = record { card = t.placed.card; seen = t.seen }

seen_mails : (entries : List Entry)
    → filter_map (λ (e : Entry). card_seen e.seen e.read) entries ≡ map seen_of (filter_map mail_of entries)
seen_mails [] = refl
seen_mails (e ∷ es) = by e.read (seen_mails es)
  where
    by : (read : Result Card Fault) → filter_map (λ (e : Entry). card_seen e.seen e.read) es ≡ map seen_of (filter_map mail_of es)
        → cons_option (card_seen e.seen read) (filter_map (λ (e : Entry). card_seen e.seen e.read) es) ≡ map seen_of (cons_option (mail_by e read) (filter_map mail_of es))
    by (Ok card) h = ap (λ ts. record { card = card; seen = e.seen } ∷ ts) h
    by (Err fault) h = h

-- the mail of a card, without its number, where the date that it says counts
abbrev dressed : CardSeen → Mail
dressed t = record { placed = record { date = unwrap_or t.card.date 0; uid = 0; card = t.card }; seen = t.seen }

bare_mails : (entries : List Entry) → AllByRecursion (λ e. IfOk e.read (IsDatedBy e.arrival)) entries
    → map bare (filter_map mail_of entries) ≡ map dressed (filter_map (λ (e : Entry). card_seen e.seen e.read) entries)
bare_mails [] a = refl
bare_mails (e ∷ es) a = by e.read a.0 (bare_mails es a.1)
  where
    made : Card → ℕ → Mail
    made card date = record { placed = record { date = date; uid = 0; card = card }; seen = e.seen }

    at_date : (o : Option ℕ) (date : ℕ) → o ≡ Some date → date ≤ e.arrival → effective_date o e.arrival ≡ unwrap_or o 0
    at_date (Some d) date h low = let same : d ≡ date = cc in omega (arith, same, low)
    at_date None date h low = cc

    by : (read : Result Card Fault) → IfOk read (IsDatedBy e.arrival)
        → map bare (filter_map mail_of es) ≡ map dressed (filter_map (λ (e : Entry). card_seen e.seen e.read) es)
        → map bare (cons_option (mail_by e read) (filter_map mail_of es)) ≡ map dressed (cons_option (card_seen e.seen read) (filter_map (λ (e : Entry). card_seen e.seen e.read) es))
    by (Ok card) d h = λ i. made card (at_date card.date d.0 d.1 d.2 i) ∷ h i
    by (Err fault) d h = h

-- ---- ids that differ

distinct_of : (ts : List Mail) → IsDistinct same_card_id (map seen_of ts) → IsDistinct same_id ts
unfolding IsDistinct
distinct_of [] d = tt
distinct_of (t ∷ ts) d = (others ts d.0, distinct_of ts d.1)
  where
    others : (us : List Mail) → AllByRecursion (λ u. same_card_id (seen_of t) u ≡ false) (map seen_of us)
        → AllByRecursion (λ u. same_id t u ≡ false) us
    others [] a = tt
    others (u ∷ us) a = (a.0, others us a.1)

firsts_all : (ts : List Mail) → IsDistinct same_id ts → firsts same_id ts ≡ ts
unfolding IsDistinct
firsts_all [] d = refl
firsts_all (t ∷ ts) d =
    ap (λ us. t ∷ filter (λ u. not (same_id t u)) us) (firsts_all ts d.1) ∙ ap (λ us. t ∷ us) (none_filtered (same_id t) ts d.0)

-- ---- mail order without numbers

bare_less : (x y : Mail) → same_id x y ≡ false → mail_cmp x y ≡ Less → mail_cmp (bare x) (bare y) ≡ Less
bare_less x y apart h =
    by (nat_cmp x.placed.date y.placed.date) (slice_cmp nat_cmp x.placed.card.id y.placed.card.id) (nat_cmp x.placed.uid y.placed.uid) (is_eq-slice_cmp x.placed.card.id y.placed.card.id ∙ apart) h
  where
    by : (date id uid : Ordering) → is_eq id ≡ false → ordering_then date (ordering_then id uid) ≡ Less
        → ordering_then date (ordering_then id (nat_cmp 0 0)) ≡ Less
    by Less id uid a h = refl
    by Equal Less uid a h = refl
    by Equal Equal uid a h = cc
    by Equal Greater uid a h = cc
    by Greater id uid a h = cc

bare_sorted : (ts : List Mail) → IsDistinct same_id ts → IsStrictlySortedBy mail_cmp ts → IsStrictlySortedBy mail_cmp (map bare ts)
unfolding IsDistinct IsStrictlySortedBy
bare_sorted [] d s = tt
bare_sorted (t ∷ ts) d s = (others ts d.0 s.0, bare_sorted ts d.1 s.1)
  where
    others : (us : List Mail) → AllByRecursion (λ u. same_id t u ≡ false) us → AllByRecursion (λ u. mail_cmp t u ≡ Less) us
        → AllByRecursion (λ u. mail_cmp (bare t) u ≡ Less) (map bare us)
    others [] a b = tt
    others (u ∷ us) a b = (bare_less t u a.0 b.0, others us a.1 b.1)

-- ---- the mails of one mailbox

mails_seen : (m : Mailbox) → AreDated m → IsPermutation (map dressed (cards_seen m)) (map bare (mails m))
mails_seen m dated =
    subst (λ ts. IsPermutation ts (map bare (mails m))) (bare_mails m.entries dated)
    (IsPermutation-map bare (filter_map mail_of m.entries) (mails m) (mails_all m))

mails_apart : (m : Mailbox) → IsDistinct same_card_id (cards_seen m) → IsDistinct same_id (mails m)
mails_apart m d =
    IsDistinct-IsPermutation same_id (λ x y. is_alike.turn x y) (filter_map mail_of m.entries) (mails m) (mails_all m)
    (distinct_of (filter_map mail_of m.entries) (subst (IsDistinct same_card_id) (seen_mails m.entries) d))

-- two that tie have one id
one_id : (x y : Mail) → mail_cmp x y ≡ Equal → same_id x y ≡ true
one_id x y e =
    sym (is_eq-slice_cmp x.placed.card.id y.placed.card.id)
    ∙ by (nat_cmp x.placed.date y.placed.date) (slice_cmp nat_cmp x.placed.card.id y.placed.card.id) (nat_cmp x.placed.uid y.placed.uid) e
  where
    by : (date id uid : Ordering) → ordering_then date (ordering_then id uid) ≡ Equal → is_eq id ≡ true
    by Less id uid h = cc
    by Equal Less uid h = cc
    by Equal Equal uid h = refl
    by Equal Greater uid h = cc
    by Greater id uid h = cc

mails_strict : (m : Mailbox) → IsDistinct same_id (mails m) → IsStrictlySortedBy mail_cmp (mails m)
mails_strict m apart = strict_order mail_cmp order same_id one_id (mails m) apart (mails_in_order m)

-- ---- the present mails of both

present_alike : (m n : Mailbox) → HaveSameCards m n → map bare (present m) ≡ map bare (present n)
present_alike m n same =
    ap (map bare) (firsts_all (mails m) apart)
    ∙ one_order mail_cmp order (map bare (mails m)) (map bare (mails n)) (bare_sorted (mails m) apart (mails_strict m apart)) (bare_sorted (mails n) other (mails_strict n other)) moved
    ∙ sym (ap (map bare) (firsts_all (mails n) other))
  where
    apart : IsDistinct same_id (mails m)
    apart = mails_apart m same.ids

    other : IsDistinct same_id (mails n)
    other = mails_apart n (IsDistinct-IsPermutation same_card_id (λ x y. turned x y) (cards_seen m) (cards_seen n) same.cards same.ids)
      where
        turned : (x y : CardSeen) → same_card_id x y ≡ same_card_id y x
        turned x y = is_alike.turn (dressed x) (dressed y)

    moved : IsPermutation (map bare (mails m)) (map bare (mails n))
    moved =
        IsPermutation-trans (map bare (mails m)) (map dressed (cards_seen n)) (map bare (mails n)) (IsPermutation-trans (map bare (mails m)) (map dressed (cards_seen m)) (map dressed (cards_seen n)) (IsPermutation-sym (map dressed (cards_seen m)) (map bare (mails m)) (mails_seen m same.first)) (IsPermutation-map dressed (cards_seen m) (cards_seen n) same.cards)) (mails_seen n same.second)

-- ---- what is shown of both

module _ (m n : Mailbox) (same : HaveSameCards m n) where
  -- a word that says the same of mails without their numbers
  over_bare : {Y : Type 0} (f : Bytes → ℕ → List Mail → Y)
      → ((me : Bytes) (now : ℕ) (ps : List Mail) → f me now (map bare ps) ≡ f me now ps)
      → f m.me m.now (present m) ≡ f n.me n.now (present n)
  over_bare f h =
      sym (h m.me m.now (present m))
      ∙ (λ i. f (same.me i) (same.now i) (present_alike m n same i))
      ∙ h n.me n.now (present n)

  pub list_same : (list_page m).faults ≡ (list_page n).faults → answer m AllChats ≡ answer n AllChats
  list_same faults = λ i. Some (list_text (record { rows = over_bare list_rows_in list_bare i; faults = faults i }))

  pub contacts_same : answer m AllContacts ≡ answer n AllContacts
  contacts_same = λ i. Some (contacts_text (contacts_by (same.me i) (over_bare cards_in cards_bare i)))

  pub updates_same : (id : Bytes) → answer m (AllUpdates id) ≡ answer n (AllUpdates id)
  updates_same id = over_bare (λ me now ps. answer_in me now ps [] (AllUpdates id)) (λ me now ps. all_updates_bare me now ps [] id)

  pub infos_same : (id : Bytes) → answer m (InfoUpdates id) ≡ answer n (InfoUpdates id)
  infos_same id = over_bare (λ me now ps. answer_in me now ps [] (InfoUpdates id)) (λ me now ps. info_updates_bare me now ps [] id)

  pub page_same : (key : ChatKey) → option_map unnumbered (page m key) ≡ option_map unnumbered (page n key)
  page_same key =
      sym (page_bare m.me m.now (present m) key)
      ∙ (λ i. page_in (same.me i) (same.now i) (present_alike m n same i) key)
      ∙ page_bare n.me n.now (present n) key
