-- What is shown of the present mails, one after the other in mail order.
use Rattle.std.proofs.Common.{◌≡◌, refl, sym, ap, ◌∙◌, subst, ℕ, suc, ◌+◌, ◌<◌, ◌≤◌, Bool, true, false, ◌&&◌, ◌||◌, cond, Some, None, List, [], ◌∷◌, ◌++◌, length, map, take, arith}
use Rattle.std.specs.Prelude.{find, filter, is_some, if◌then◌else◌}
use Rattle.std.specs.FinMap as map_of
use Rattle.std.specs.List.{AllByRecursion, IsDistinct, list_any}
use Rattle.std.specs.Str.{bytes_eq}
use Rattle.std.specs.Cmp.Lexicographic.{bytes_decides}
use Rattle.std.proofs.lemmas.List.{length-append, length-map}
use Rattle.std.proofs.lemmas.List.Elements.{filter-append}
use Rattle.std.proofs.lemmas.List.Sums.{count_by-le-length, length-filter, sum_by-append, sum_by-cons}
use Rattle.card_type.specs.declared.key.ChatKey.{ChatKey}
use Rattle.card_type.specs.declared.spot.Spot.{Spot}
use Rattle.card_type.specs.Keys.{key_cmp}
use Rattle.card_type.specs.Kinds.{has_some, is_content, kind_of}
use Rattle.chat_view.specs.declared.state.ChatState.{ChatState}
use Rattle.chat_view.specs.Standing.{state_of}
use Rattle.mailbox_model.specs.Lists.{Bytes}
use Rattle.mailbox_model.specs.Mailbox.{Mailbox, IsMailbox}
use Rattle.mailbox_model.specs.Present.{Mail, contents, has_id, mail_at, present, same_uid, spot}
use Rattle.mailbox_model.specs.Chats.{chat, cites, is_chat, is_id_among}
use Rattle.mailbox_model.specs.States.{Shown, shown_as}
use Rattle.mailbox_model.specs.Turns.{is_mail}
use Rattle.mailbox_model.proofs.ChatLaws.{cites_at}
use Rattle.mailbox_model.proofs.CountLaws.{few_contents}
use Rattle.mailbox_model.proofs.UidLaws.{present_uids}
use Rattle.indexes.specs.declared.indexes.Indexes.{Indexes}
use Rattle.indexes.specs.Costs.{pairs, times_named}
use Rattle.indexes.specs.Kept.{AreDeadlines, AreOf, AreStates, contents_of, mails_in, spot_at}
use Rattle.indexes.proofs.CardsSoFar.{IsCut, in_middle}
use Rattle.indexes.proofs.Grown.{contents_same, deadlines_same, states_same}
use Rattle.indexes.proofs.Mails.{IsPresent, each_present, spot_is}
use Rattle.indexes.proofs.PresentAt.{list_any-map}

abbrev content : Mail → Bool
content t = is_content (kind_of t.placed.card)

-- ---- which cards are contents

-- those of xs that p finds are alike to q: whether one is left where q keeps
any_kept : {X : Type 0} (p q : X → Bool) (b : Bool) (xs : List X) → AllByRecursion (λ x. p x ≡ true → q x ≡ b) xs
    → list_any p (filter q xs) ≡ (list_any p xs && b)
any_kept p q b [] a = refl
any_kept {X} p q b (x ∷ xs) a =
    elim (p x) as (λ c. p x ≡ c → list_any p (cond (q x) (x ∷ filter q xs) (filter q xs)) ≡ ((c || list_any p xs) && b)) [
      | true ↦ λ e. ap (λ c. list_any p (cond c (x ∷ filter q xs) (filter q xs))) (a.0 e) ∙ found e b (any_kept p q b xs a.1)
      | false ↦ λ e. elim (q x) as (λ c. list_any p (cond c (x ∷ filter q xs) (filter q xs)) ≡ (list_any p xs && b)) [ true ↦ ap (λ c. c || list_any p (filter q xs)) e ∙ any_kept p q b xs a.1 | false ↦ any_kept p q b xs a.1 ]
    ] refl
  where
    none : (c : Bool) → (c && false) ≡ false
    none true = refl
    none false = refl

    found : p x ≡ true → (b : Bool) → list_any p (filter q xs) ≡ (list_any p xs && b) → list_any p (cond b (x ∷ filter q xs) (filter q xs)) ≡ b
    found e true h = ap (λ c. c || list_any p (filter q xs)) e
    found e false h = h ∙ none (list_any p xs)

some_found : {X : Type 0} (p : X → Bool) (xs : List X) (x : X) → find p xs ≡ Some x → list_any p xs ≡ true
some_found p [] x h = cc
some_found p (y ∷ ys) x h = elim (p y) as (λ b. cond b (Some y) (find p ys) ≡ Some x → (b || list_any p ys) ≡ true) [ true ↦ λ k. refl | false ↦ λ k. some_found p ys x k ] h

each : {X : Type 0} (P Q : X → Type 0) → ((x : X) → P x → Q x) → (xs : List X) → AllByRecursion P xs → AllByRecursion Q xs
each P Q f [] a = tt
each P Q f (x ∷ xs) a = (f x a.0, each P Q f xs a.1)

-- a present card has cites exactly where it is a content
pub content_is : (m : Mailbox) (rules : IsMailbox m) (t : Mail) → IsPresent m t → is_id_among (cites m) t.placed.card.id ≡ content t
content_is m rules t here =
    list_any-map (cites_at m.me) (λ e. bytes_eq t.placed.card.id e.spot.id) (contents m)
    ∙ any_kept (has_id t.placed.card.id) content (content t) (present m)
    (each (IsPresent m) (λ u. has_id t.placed.card.id u ≡ true → content u ≡ content t) (λ u k e.
    let same = (bytes_decides t.placed.card.id u.placed.card.id).0 e in
    let one : Some u ≡ Some t = sym k.first ∙ ap (λ id. find (has_id id) (present m)) (sym same) ∙ here.first in
    let is : u ≡ t = cc in
    ap content is) (present m) (each_present m rules))
    ∙ ap (λ b. b && content t) (some_found (has_id t.placed.card.id) (present m) t here.first)

-- ---- the next present mail, whose spot follows those of n mails

module _ (m : Mailbox) (rules : IsMailbox m) (n : ℕ) (place : Spot) (next : IsCut (λ t. spot t.placed) (present m) n place) where
  abbrev before : List Mail
  before = take n (present m)

  abbrev t : Mail
  t = next.one

  here : IsPresent m t
  here = in_middle (IsPresent m) before t next.after (subst (AllByRecursion (IsPresent m)) next.whole (each_present m rules))

  pub its_mail : mail_at m place.uid ≡ Some t
  its_mail = subst (λ s. mail_at m s.uid ≡ Some t) next.at here.mail

  pub its_place : spot_at m place.uid ≡ Some place
  its_place = spot_is m place.uid t its_mail ∙ ap Some next.at

  pub its_kind : is_id_among (cites m) place.id ≡ content t
  its_kind = ap (λ s. is_id_among (cites m) s.id) (sym next.at) ∙ content_is m rules t here

  -- none before it has its uid
  pub no_other : is_some (find (is_mail place.uid) before) ≡ false
  unfolding IsDistinct
  no_other = ap (λ s. is_some (find (is_mail s.uid) before)) (sym next.at) ∙ ap is_some (none before (subst (IsDistinct same_uid) next.whole (present_uids m rules.uids)))
    where
      none : (us : List Mail) → IsDistinct same_uid (us ++ t ∷ next.after) → find (is_mail t.placed.uid) us ≡ None
      none [] d = refl
      none (u ∷ us) d = rw (in_middle (λ v. same_uid u v ≡ false) us t next.after d.0, find) (none us d.1)

  -- ---- reads

  abbrev pub cost_of : List Mail → ℕ
  cost_of ts = length (contents_of ts) + pairs m (contents_of ts)

  cost-append : (xs ys : List Mail) → cost_of (xs ++ ys) ≡ cost_of xs + cost_of ys
  cost-append xs ys =
      let parts = filter-append content xs ys in
      omega (
        arith,
        ap length parts,
        length-append (contents_of xs) (contents_of ys),
        ap (pairs m) parts,
        sum_by-append (λ (u : Mail). times_named m u.placed.card.id) (contents_of xs) (contents_of ys),
      )

  pub within : cost_of before ≤ cost_of (present m)
  within = omega (arith, ap cost_of next.whole, cost-append before (t ∷ next.after))

  pub cost_more : content t ≡ true → cost_of (take (suc n) (present m)) ≡ cost_of before + (1 + times_named m place.id)
  cost_more is =
      let one = ap (λ b. cond b (t ∷ []) []) is in
      omega (
        arith,
        ap cost_of next.more,
        cost-append before (t ∷ []),
        ap length one,
        ap (pairs m) one,
        sum_by-cons (λ (u : Mail). times_named m u.placed.card.id) t [],
        ap (λ s. times_named m s.id) next.at,
      )

  pub within_more : content t ≡ true → cost_of before + (1 + times_named m place.id) ≤ cost_of (present m)
  within_more is =
      let one = ap (λ b. cond b (t ∷ []) []) is in
      omega (
        arith,
        ap cost_of next.whole,
        cost-append before (t ∷ next.after),
        cost-append (t ∷ []) next.after,
        ap length one,
        ap (pairs m) one,
        sum_by-cons (λ (u : Mail). times_named m u.placed.card.id) t [],
        ap (λ s. times_named m s.id) next.at,
      )

  -- ---- a state has room for one spot more

  pub has_room : content t ≡ true → (states : map_of.FinMap key_cmp ChatState) → AreStates m before states → (key : ChatKey) (state : ChatState)
      → map_of.get states key ≡ Some state → length state.spots < 65536
  has_room is states stands key state h =
      by (map (shown_as m) (mails_in m key before)) (sym (stands key) ∙ h)
      (omega (
        arith,
        length-map (mails_in m key before) (shown_as m),
        length-filter (λ u. is_chat key (chat m u.placed.card.id)) (contents_of before),
        count_by-le-length (λ u. is_chat key (chat m u.placed.card.id)) (contents_of before),
        few_contents m rules,
        ap (λ ts. length (contents_of ts)) next.whole,
        ap length (filter-append content before (t ∷ next.after)),
        length-append (contents_of before) (contents_of (t ∷ next.after)),
        ap (λ b. length (cond b (t ∷ contents_of next.after) (contents_of next.after))) is,
      ))
    where
      by : (cards : List Shown) → (if has_some cards then Some (state_of m.me key cards) else None) ≡ Some state → length cards < 65536 → length state.spots < 65536
      by cards k few =
          elim (has_some cards) as (λ b. (if b then Some (state_of m.me key cards) else None) ≡ Some state → length state.spots < 65536) [
            | true ↦ λ e. let same : state_of m.me key cards ≡ state = cc in omega (arith, few, ap (λ (s : ChatState). length s.spots) same, length-map cards (λ (c : Shown). c.spot))
            | false ↦ λ e. cc
          ] k

  -- ---- once it is done, or is no content

  module _ (k : ℕ) (more : k ≡ suc n) where
    pub taken : take k (present m) ≡ before ++ t ∷ []
    taken = ap (λ i. take i (present m)) more ∙ next.more

    pub states_stay : content t ≡ false → (states : map_of.FinMap key_cmp ChatState) → AreStates m before states → AreStates m (take k (present m)) states
    states_stay is states stands = subst (λ ts. AreStates m ts states) (sym taken) (states_same m before t is states stands)

    pub deadlines_stay : content t ≡ false → (deadlines : List (ℕ × ℕ)) → AreDeadlines m before deadlines → AreDeadlines m (take k (present m)) deadlines
    deadlines_stay is deadlines stands = subst (λ ts. AreDeadlines m ts deadlines) (sym taken) (deadlines_same m before t is deadlines stands)

    pub cost_stays : content t ≡ false → cost_of (take k (present m)) ≡ cost_of before
    cost_stays is = ap cost_of taken ∙ ap (λ ts. length ts + pairs m ts) (contents_same before t is)

-- the cards' indexes stay those where only states and deadlines change
pub of_same : (me : Bytes) (ts : List Mail) (x y : Indexes) → AreOf me ts x → y ≡ record x { chats = y.chats; timers = y.timers } → AreOf me ts y
of_same me ts x y k e = subst (AreOf me ts) (sym e) (record { whole = k.whole; links = k.links; effects = k.effects; contacts = k.contacts })

pub rest_more : (x y z : Indexes) → y ≡ record x { chats = y.chats; timers = y.timers } → z ≡ record y { chats = z.chats; timers = z.timers }
    → z ≡ record x { chats = z.chats; timers = z.timers }
rest_more x y z before now = now ∙ ap (λ (u : Indexes). record u { chats = z.chats; timers = z.timers }) before
