-- Where a chat is not suspect, no mail that changed is in it or names a card of it.
use Rattle.std.proofs.Common.{◌≡◌, ◌≢◌, refl, sym, ap, ◌∙◌, subst, ℕ, Bool, true, false, not, ◌||◌, ◌&&◌, Option, Some, None, List, [], ◌∷◌, ◌++◌, map, ◌⊎◌, inl, inr}
use Rattle.std.specs.Prelude.{if◌then◌else◌, IfSome}
use Rattle.std.specs.List.{list_any, AllByRecursion}
use Rattle.std.proofs.lemmas.Bool.{both_ways, or_left, or_right, or_from, false≢true, true_from_ne_false}
use Rattle.std.proofs.lemmas.List.Folds.{list_any-append}
use Rattle.lists.proofs.Inserts.{All-insert_by, list_any-insert_by}
use Rattle.lists.proofs.OneMore.{none_among}
use Rattle.card_type.specs.declared.key.ChatKey.{ChatKey}
use Rattle.card_type.specs.Effects.{is_among, names}
use Rattle.mailbox_model.specs.declared.turn.Turn.{Turn}
use Rattle.mailbox_model.specs.declared.turn.Turn.TheVariants.{Nothing, Add, Remove, Replace, Marked, Moved}
use Rattle.mailbox_model.specs.Mailbox.{Mailbox, marked_at}
use Rattle.mailbox_model.specs.Present.{Mail, mail_cmp, present}
use Rattle.mailbox_model.specs.Turns.{is_mail, mark_mail, with_mail, IsTurn}
use Rattle.mailbox_model.specs.Chats.{chat, is_chat, chat_mails}
use Rattle.mailbox_model.proofs.FrameLaws.{page_stays}
use Rattle.mailbox_model.specs.Pages.{page}
use Rattle.touched_chats.specs.Touched.{is_same, only_in, is_or_names, is_concerned, IsTouched}
use Rattle.touched_chats.specs.Suspects.{is_near, is_suspect}
use Rattle.touched_chats.proofs.Lists.{each_not, any_passing}
use Rattle.touched_chats.proofs.Near.{is_in, far_apart, far_unnamed, each_in}
use Rattle.touched_chats.proofs.SameMails.{same_itself, one_of}
use Rattle.touched_chats.proofs.Turned.{is_of, first_uid, second_uid, none_turned}
use Rattle.touched_chats.proofs.Beside.{with_maybe}
use Rattle.touched_chats.proofs.Staying.{turn_stays, turn_name_stays, suspect_mails}

-- ---- each mail is the same as itself

pub All-weaker : {X : Type 0} (P Q : X → Type 0) → ((x : X) → P x → Q x) → (xs : List X) → AllByRecursion P xs → AllByRecursion Q xs
All-weaker P Q f [] a = tt
All-weaker P Q f (x ∷ xs) a = (f x a.0, All-weaker P Q f xs a.1)

each_there : (ts : List Mail) → AllByRecursion (λ t. list_any (is_same t) ts ≡ true) ts
each_there [] = tt
each_there (t ∷ ts) =
    (or_left (is_same t t) (list_any (is_same t) ts) (same_itself t), All-weaker (λ u. list_any (is_same u) ts ≡ true) (λ u. list_any (is_same u) (t ∷ ts) ≡ true) (λ u h. or_right (is_same u t) (list_any (is_same u) ts) h) ts (each_there ts))

-- ---- each mail of one mailbox is the same in the other, or is one of the turn

module _ (turn : Turn) where
  -- t is the same among others, or one of the turn
  abbrev AreSameBut : List Mail → List Mail → Type 0
  AreSameBut others ts = AllByRecursion (λ t. (list_any (is_same t) others || is_of turn t) ≡ true) ts

  same_but : (others ts : List Mail) → AllByRecursion (λ t. list_any (is_same t) others ≡ true) ts → AreSameBut others ts
  same_but others ts a =
      All-weaker (λ t. list_any (is_same t) others ≡ true) (λ t. (list_any (is_same t) others || is_of turn t) ≡ true) (λ t h. or_left (list_any (is_same t) others) (is_of turn t) h) ts a

  with_one : (o : Option Mail) (ts : List Mail) → AreSameBut (with_maybe o ts) ts
  with_one None ts = same_but ts ts (each_there ts)
  with_one (Some u) ts =
      same_but (with_mail u ts) ts
      (All-weaker (λ t. list_any (is_same t) ts ≡ true) (λ t. list_any (is_same t) (with_mail u ts) ≡ true) (λ t h. list_any-insert_by mail_cmp (is_same t) u ts ∙ or_right (is_same t u) (list_any (is_same t) ts) h) ts (each_there ts))

  beside_same : (a b : Option Mail) (others : List Mail) → IfSome b (λ t. is_of turn t ≡ true) → AreSameBut (with_maybe a others) (with_maybe b others)
  beside_same a None others h = with_one a others
  beside_same a (Some t) others h =
      All-insert_by mail_cmp (λ u. (list_any (is_same u) (with_maybe a others) || is_of turn u) ≡ true) t others
      (or_right (list_any (is_same t) (with_maybe a others)) (is_of turn t) h) (with_one a others)

  beside_both : (a b : Option Mail) (others before after : List Mail) → before ≡ with_maybe a others → after ≡ with_maybe b others
      → IfSome a (λ t. is_of turn t ≡ true) → IfSome b (λ t. is_of turn t ≡ true) → AreSameBut after before × AreSameBut before after
  beside_both a b others before after e f old new = (
    subst (λ ts. AreSameBut ts before) (sym f) (subst (AreSameBut (with_maybe b others)) (sym e) (beside_same b a others old)),
    subst (λ ts. AreSameBut ts after) (sym e) (subst (AreSameBut (with_maybe a others)) (sym f) (beside_same a b others new)),
  )

-- a mark
module _ (uid now : ℕ) where
  unmarked : (t : Mail) → (is_mail uid t ≡ true) ⊎ (mark_mail uid now t ≡ t)
  unmarked t = elim (is_mail uid t) as (λ b. (b ≡ true) ⊎ ((if b then record t { seen = marked_at now t.seen } else t) ≡ t)) [ true ↦ inl refl | false ↦ inr refl ]

  marked_uid : (t : Mail) → is_mail uid (mark_mail uid now t) ≡ is_mail uid t
  marked_uid t = elim (is_mail uid t) as (λ b. is_mail uid (if b then record t { seen = marked_at now t.seen } else t) ≡ is_mail uid t) [ true ↦ refl | false ↦ refl ]

  same_or_marked : (t : Mail) (others : List Mail) → list_any (is_same t) others ≡ true → (list_any (is_same t) others || is_of (Marked uid) t) ≡ true
  same_or_marked t others h = or_left (list_any (is_same t) others) (is_of (Marked uid) t) h

  is_marked : (t : Mail) (others : List Mail) → is_mail uid t ≡ true → (list_any (is_same t) others || is_of (Marked uid) t) ≡ true
  is_marked t others h = or_right (list_any (is_same t) others) (is_of (Marked uid) t) (or_left (is_mail uid t) false h)

  marked_both : (ts : List Mail) → AreSameBut (Marked uid) (map (mark_mail uid now) ts) ts × AreSameBut (Marked uid) ts (map (mark_mail uid now) ts)
  marked_both [] = (tt, tt)
  marked_both (t ∷ ts) =
      let rest = marked_both ts in (
        (old t (unmarked t), All-weaker (λ u. (list_any (is_same u) (map (mark_mail uid now) ts) || is_of (Marked uid) u) ≡ true) (λ u. (list_any (is_same u) (map (mark_mail uid now) (t ∷ ts)) || is_of (Marked uid) u) ≡ true) (λ u h. wider (is_same u (mark_mail uid now t)) (list_any (is_same u) (map (mark_mail uid now) ts)) (is_of (Marked uid) u) h) ts rest.0),
        (new t (unmarked t), All-weaker (λ u. (list_any (is_same u) ts || is_of (Marked uid) u) ≡ true) (λ u. (list_any (is_same u) (t ∷ ts) || is_of (Marked uid) u) ≡ true) (λ u h. wider (is_same u t) (list_any (is_same u) ts) (is_of (Marked uid) u) h) (map (mark_mail uid now) ts) rest.1),
      )
    where
      wider : (a b c : Bool) → (b || c) ≡ true → ((a || b) || c) ≡ true
      wider true b c h = refl
      wider false b c h = h

      old : (t : Mail) → (is_mail uid t ≡ true) ⊎ (mark_mail uid now t ≡ t) → (list_any (is_same t) (map (mark_mail uid now) (t ∷ ts)) || is_of (Marked uid) t) ≡ true
      old t (inl e) = is_marked t (map (mark_mail uid now) (t ∷ ts)) e
      old t (inr e) = same_or_marked t (map (mark_mail uid now) (t ∷ ts)) (or_left (is_same t (mark_mail uid now t)) (list_any (is_same t) (map (mark_mail uid now) ts)) (ap (is_same t) e ∙ same_itself t))

      new : (t : Mail) → (is_mail uid t ≡ true) ⊎ (mark_mail uid now t ≡ t) → (list_any (is_same (mark_mail uid now t)) (t ∷ ts) || is_of (Marked uid) (mark_mail uid now t)) ≡ true
      new t (inl e) = is_marked (mark_mail uid now t) (t ∷ ts) (marked_uid t ∙ e)
      new t (inr e) = same_or_marked (mark_mail uid now t) (t ∷ ts) (or_left (is_same (mark_mail uid now t) t) (list_any (is_same (mark_mail uid now t)) ts) (ap (λ u. is_same u t) e ∙ same_itself t))

others_same : (m n : Mailbox) (turn : Turn) → IsTurn m n turn → AreSameBut turn (present n) (present m) × AreSameBut turn (present m) (present n)
others_same m n Nothing is = beside_both Nothing None None (present m) (present m) (present n) refl is.present tt tt
others_same m n (Add at) is =
    let t = is.present.0 in
    beside_both (Add at) None (Some t) (present m) (present m) (present n) refl is.present.2 tt (first_uid at.uid [] t (ap (λ s. s.uid) is.present.1))
others_same m n (Remove at) is =
    let t = is.present.0 in
    beside_both (Remove at) (Some t) None (present n) (present m) (present n) is.present.2 refl (first_uid at.uid [] t (ap (λ s. s.uid) is.present.1)) tt
others_same m n (Replace from to) is =
    let t = is.present.0 in
    let u = is.present.1 in
    let both = is.present.4 in
    beside_both (Replace from to) (Some t) (Some u) both.others (present m) (present n) both.first both.second
    (first_uid from.uid (to.uid ∷ []) t (ap (λ s. s.uid) is.present.2)) (second_uid from.uid to.uid u (ap (λ s. s.uid) is.present.3))
others_same m n (Marked uid) is =
    subst (λ ts. AreSameBut (Marked uid) ts (present m) × AreSameBut (Marked uid) (present m) ts) (sym is.present.4) (marked_both uid m.now (present m))
others_same m n (Moved moment) is = beside_both (Moved moment) None None (present m) (present m) (present n) refl is.present tt tt

-- ---- so what changed is of the turn

module _ (turn : Turn) (p q : Mail → Bool) (follows : (t : Mail) → p t ≡ false → q t ≡ false) where
  none_changed : (others ts : List Mail) → AreSameBut turn others ts → list_any (λ t. is_of turn t && p t) ts ≡ false
      → list_any q (only_in ts others) ≡ false
  none_changed others ts same none =
      any_passing q (λ t. not (list_any (is_same t) others)) ts
      ∙ none_among (λ t. not (list_any (is_same t) others) && q t) ts (each ts same (each_not (λ t. is_of turn t && p t) ts none))
    where
      one : (there of passes asked : Bool) → (passes ≡ false → asked ≡ false) → (there || of) ≡ true → (of && passes) ≡ false → (not there && asked) ≡ false
      one true of passes asked f h k = refl
      one false true passes asked f h k = f k
      one false false passes asked f h k = absurd (false≢true h)

      each : (ts : List Mail) → AreSameBut turn others ts → AllByRecursion (λ t. (is_of turn t && p t) ≡ false) ts
          → AllByRecursion (λ t. (not (list_any (is_same t) others) && q t) ≡ false) ts
      each [] a b = tt
      each (t ∷ ts) a b = (one (list_any (is_same t) others) (is_of turn t) (p t) (q t) (follows t) a.0 b.0, each ts a.1 b.1)

module _ (m n : Mailbox) (turn : Turn) (key : ChatKey) (me : m.me ≡ n.me) (is : IsTurn m n turn) (h : is_suspect m n turn key ≡ false) where
  -- a mail that is far from the chat is not one of its cards, and names none
  apart : (t : Mail) → is_in n key t ≡ true → (e : Mail) → is_near n key e ≡ false → is_or_names t e ≡ false
  apart t there e far = or_from (is_same e t) (is_among (names e.placed.card) t.placed.card.id) (other (is_same e t) refl) (far_unnamed n key e far t there)
    where
      other : (b : Bool) → is_same e t ≡ b → b ≡ false
      other true k = absurd (both_ways (is_in n key e) (far_apart n key e far) (ap (λ id. is_chat key (chat n id)) ((one_of e t k).id) ∙ there))
      other false k = refl

  unconcerned : (t : Mail) → is_in n key t ≡ true → is_concerned m n t ≡ false
  unconcerned t there =
      let none = none_turned m n turn (is_near n key) (suspect_mails m n turn key h) in
      let same = others_same m n turn is in
      list_any-append (is_or_names t) (only_in (present n) (present m)) (only_in (present m) (present n))
      ∙ or_from (list_any (is_or_names t) (only_in (present n) (present m))) (list_any (is_or_names t) (only_in (present m) (present n)))
      (none_changed turn (is_near n key) (is_or_names t) (apart t there) (present m) (present n) same.1 none.1)
      (none_changed turn (is_near n key) (is_or_names t) (apart t there) (present n) (present m) same.0 none.0)

  none_concerned : list_any (is_concerned m n) (chat_mails m key ++ chat_mails n key) ≡ false
  none_concerned =
      let none : list_any (is_concerned m n) (chat_mails n key) ≡ false = none_among (is_concerned m n) (chat_mails n key) (each_in (λ t. is_concerned m n t ≡ false) n key unconcerned) in
      list_any-append (is_concerned m n) (chat_mails m key) (chat_mails n key)
      ∙ or_from (list_any (is_concerned m n) (chat_mails m key)) (list_any (is_concerned m n) (chat_mails n key))
      (ap (list_any (is_concerned m n)) (turn_stays m n turn key me is h).mails ∙ none) none

  untouched : IsTouched m n key → ⊥
  untouched touched = by touched.why
    where
      by : (list_any (is_concerned m n) (chat_mails m key ++ chat_mails n key) ≡ true) ⊎ ((chat_mails m key ≢ chat_mails n key) ⊎ (page m key ≢ page n key)) → ⊥
      by (inl e) = both_ways (list_any (is_concerned m n) (chat_mails m key ++ chat_mails n key)) none_concerned e
      by (inr (inl differ)) = differ (turn_stays m n turn key me is h).mails
      by (inr (inr differ)) = differ (page_stays m n key (turn_stays m n turn key me is h) (turn_name_stays m n turn key is h))

pub touched_suspect : (m n : Mailbox) (turn : Turn) (key : ChatKey) → m.me ≡ n.me → IsTurn m n turn → IsTouched m n key → is_suspect m n turn key ≡ true
touched_suspect m n turn key me is touched = true_from_ne_false (is_suspect m n turn key) (λ h. untouched m n turn key me is h touched)
