-- Each mail of a turn changed: it is not the same before and after.
use Rattle.std.proofs.Common.{◌≡◌, ◌≢◌, refl, sym, ap, ◌∙◌, subst, ℕ, true, false, not, Option, Some, None, is_some, List, [], ◌∷◌, ◌++◌, ◌⊎◌, inl, inr, ⊎_elim}
use Rattle.std.specs.Prelude.{if◌then◌else◌, nat_eq}
use Rattle.std.specs.List.{list_any, IsDistinct, Contains}
use Rattle.std.proofs.lemmas.Bool.{both_ways, eq-eqb, eqb-true, false_from_ne_true, false≢true}
use Rattle.std.proofs.lemmas.List.Elements.{All-from_recursion, All-contains}
use Rattle.lists.proofs.OneMore.{none_alike}
use Rattle.mailbox_model.specs.declared.turn.Turn.{Turn}
use Rattle.mailbox_model.specs.declared.turn.Turn.TheVariants.{Nothing, Add, Remove, Replace, Marked, Moved}
use Rattle.mailbox_model.specs.Mailbox.{Mailbox, marked_at, IsMailbox}
use Rattle.mailbox_model.specs.Present.{Mail, mail_cmp, same_uid, present}
use Rattle.mailbox_model.specs.Turns.{is_mail, mark_mail, with_mail, IsTurn}
use Rattle.mailbox_model.proofs.MailLaws.{uid_alike}
use Rattle.mailbox_model.proofs.UidLaws.{present_uids}
use Rattle.touched_chats.specs.Touched.{is_same, only_in, changed}
use Rattle.touched_chats.specs.Suspects.{turned_uids, turned}
use Rattle.touched_chats.proofs.Among.{Among, IsMapped, any_found, among_all, all_among, among_passing, passing_among, among_first, among_second, among_either, among_inserted, among_mapped, one_alike}
use Rattle.touched_chats.proofs.SameMails.{one_of, same_turn}
use Rattle.touched_chats.proofs.Turned.{is_of}

-- ---- where one comes or leaves, its uid is not on the other side

abbrev Lacks : ℕ → List Mail → Type 0
Lacks uid ts = (t : Mail) → Among t ts → t.placed.uid ≡ uid → ⊥

others_lack : (t : Mail) (ts all : List Mail) → all ≡ with_mail t ts → IsDistinct same_uid all → (uid : ℕ) → uid ≡ t.placed.uid → Lacks uid ts
others_lack t ts all is once uid own u m e =
    both_ways (same_uid t u)
    (among_all (λ u. same_uid t u ≡ false) u ts (none_alike mail_cmp same_uid uid_alike.turn t ts (subst (IsDistinct same_uid) is once)) m)
    (eq-eqb t.placed.uid u.placed.uid (sym (e ∙ own)))

with_lacks : (t : Mail) (ts all : List Mail) → all ≡ with_mail t ts → (uid : ℕ) → t.placed.uid ≢ uid → Lacks uid ts → Lacks uid all
with_lacks t ts all is uid apart none u m e =
    ⊎_elim (λ k. apart (ap (λ (v : Mail). v.placed.uid) k ∙ e)) (λ k. none u k e)
    (among_inserted mail_cmp u t ts (subst (Among u) is m))

one_uid : (uid a : ℕ) → list_any (nat_eq uid) (a ∷ []) ≡ true → uid ≡ a
one_uid uid a h = let f = any_found (nat_eq uid) (a ∷ []) h in ⊎_elim (λ e. eqb-true uid f.it f.passes ∙ sym e) (λ k. absurd k) f.among

two_uids : (uid a b : ℕ) → list_any (nat_eq uid) (a ∷ b ∷ []) ≡ true → (uid ≡ a) ⊎ (uid ≡ b)
two_uids uid a b h =
    let f = any_found (nat_eq uid) (a ∷ b ∷ []) h in
    let is = eqb-true uid f.it f.passes in
    ⊎_elim (λ e. inl (is ∙ sym e)) (λ k. ⊎_elim (λ e. inr (is ∙ sym e)) (λ j. absurd j) k) f.among

-- a mark shows
unmarked_alone : (now : ℕ) (o : Option ℕ) → None ≡ marked_at now o → ⊥
unmarked_alone now None h = false≢true (ap is_some h)
unmarked_alone now (Some s) h = false≢true (ap is_some h)

contained : (ts : List Mail) (t : Mail) → Contains ts t → Among t ts
contained ts t c = All-contains (λ u. Among u ts) ts t (All-from_recursion (λ u. Among u ts) ts (all_among (λ u. Among u ts) ts (λ u m. m))) c

module _ (uid now : ℕ) where
  mark_uid : (t : Mail) → (mark_mail uid now t).placed.uid ≡ t.placed.uid
  mark_uid t = elim (is_mail uid t) as (λ b. (if b then record t { seen = marked_at now t.seen } else t).placed.uid ≡ t.placed.uid) [ true ↦ refl | false ↦ refl ]

  mark_seen : (t : Mail) → t.placed.uid ≡ uid → (mark_mail uid now t).seen ≡ marked_at now t.seen
  mark_seen t e = ap (λ b. (if b then record t { seen = marked_at now t.seen } else t).seen) (eq-eqb t.placed.uid uid e)

module _ (m n : Mailbox) (k : IsMailbox m) (l : IsMailbox n) where
  old_once : IsDistinct same_uid (present m)
  old_once = present_uids m k.uids

  new_once : IsDistinct same_uid (present n)
  new_once = present_uids n l.uids

  -- by the uids alone
  apart : (turn : Turn) (t x : Mail) → Among t (present m) → Among x (present n) → x.placed.uid ≡ t.placed.uid
      → Lacks t.placed.uid (present m) ⊎ Lacks t.placed.uid (present n) → ⊥
  apart turn t x old new same lacks = ⊎_elim (λ none. none t old refl) (λ none. none x new same) lacks

  not_both : (turn : Turn) → IsTurn m n turn → (t x : Mail) → Among t (present m) → Among x (present n) → is_of turn t ≡ true → is_same t x ≡ true → ⊥
  not_both Nothing is t x old new of same = false≢true of
  not_both (Add at) is t x old new of same =
      let own = one_uid t.placed.uid at.uid of ∙ ap (λ s. s.uid) (sym is.present.1) in
      apart (Add at) t x old new (sym (one_of t x same).uid) (inl (others_lack is.present.0 (present m) (present n) is.present.2 new_once t.placed.uid own))
  not_both (Remove at) is t x old new of same =
      let own = one_uid t.placed.uid at.uid of ∙ ap (λ s. s.uid) (sym is.present.1) in
      apart (Remove at) t x old new (sym (one_of t x same).uid) (inr (others_lack is.present.0 (present n) (present m) is.present.2 old_once t.placed.uid own))
  not_both (Replace from to) is t x old new of same =
      let gone = is.present.0 in
      let come = is.present.1 in
      let both = is.present.4 in
      apart (Replace from to) t x old new (sym (one_of t x same).uid)
      (⊎_elim
      (λ e. let own = e ∙ ap (λ s. s.uid) (sym is.present.2) in
      inr (with_lacks come both.others (present n) both.second t.placed.uid (λ i. both.apart (sym (i ∙ own))) (others_lack gone both.others (present m) both.first old_once t.placed.uid own)))
      (λ e. let own = e ∙ ap (λ s. s.uid) (sym is.present.3) in
      inl (with_lacks gone both.others (present m) both.first t.placed.uid (λ i. both.apart (i ∙ own)) (others_lack come both.others (present n) both.second new_once t.placed.uid own)))
      (two_uids t.placed.uid from.uid to.uid of))
  not_both (Marked uid) is t x old new of same =
      let own = one_uid t.placed.uid uid of in
      let one = one_of t x same in
      let here : IsMapped (mark_mail uid m.now) x (present m) = among_mapped (mark_mail uid m.now) x (present m) (subst (Among x) is.present.4 new) in
      let unseen = is.present.0 in
      let it : t ≡ unseen = one_alike same_uid uid_alike.turn (present m) old_once t unseen old (contained (present m) unseen is.present.1) (eq-eqb t.placed.uid unseen.placed.uid (own ∙ sym is.present.2)) in
      let its : here.it.placed.uid ≡ uid = sym (mark_uid uid m.now here.it) ∙ ap (λ (u : Mail). u.placed.uid) here.is ∙ sym one.uid ∙ own in
      let seen : x.seen ≡ marked_at m.now here.it.seen = ap (λ (u : Mail). u.seen) (sym here.is) ∙ mark_seen uid m.now here.it its in
      unmarked_alone m.now here.it.seen (sym (ap (λ (u : Mail). u.seen) it ∙ is.present.3) ∙ one.seen ∙ seen)
  not_both (Moved moment) is t x old new of same = false≢true of

  -- so each changed
  pub turned_changed : (turn : Turn) → IsTurn m n turn → (t : Mail) → Among t (turned m n turn) → Among t (changed m n)
  turned_changed turn is t there = ⊎_elim left came (among_either t (present m) (present n) parts.0)
    where
      parts : Among t (present m ++ present n) × (is_of turn t ≡ true)
      parts = passing_among (is_of turn) t (present m ++ present n) there

      left : Among t (present m) → Among t (changed m n)
      left old =
          among_second t (only_in (present n) (present m)) (only_in (present m) (present n))
          (among_passing (λ u. not (list_any (is_same u) (present n))) t (present m) old
          (ap not (false_from_ne_true (list_any (is_same t) (present n)) (λ h. let f = any_found (is_same t) (present n) h in not_both turn is t f.it old f.among parts.1 f.passes))))

      came : Among t (present n) → Among t (changed m n)
      came new =
          among_first t (only_in (present n) (present m)) (only_in (present m) (present n))
          (among_passing (λ u. not (list_any (is_same u) (present m))) t (present n) new
          (ap not (false_from_ne_true (list_any (is_same t) (present m)) (λ h. let f = any_found (is_same t) (present m) h in
          let own : is_of turn f.it ≡ true = ap (λ uid. list_any (nat_eq uid) (turned_uids turn)) (sym (one_of t f.it f.passes).uid) ∙ parts.1 in
          not_both turn is f.it t f.among new own (same_turn t f.it f.passes)))))
