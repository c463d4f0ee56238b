-- What is kept while cards are pending, once one more of them is settled.
use Rattle.std.proofs.Common.{◌≡◌, refl, sym, ap, ◌∙◌, subst, ℕ, Bool, true, false, ◌||◌, Option, Some, None, Result, Ok, Err, List, ◌∷◌}
use Rattle.std.specs.Prelude.{◌==◌, find, if◌then◌else◌, option_map, OnOk}
use Rattle.std.specs.FinMap as map_of
use Rattle.std.specs.Option.{option_and_then, option_map_or}
use Rattle.std.specs.Str.{bytes_eq}
use Rattle.std.specs.Cmp.Lexicographic.{bytes_decides}
use Rattle.std.proofs.lemmas.Bool.{both_ways, eqb-true, eq-eqb, or_parts}
use Rattle.lists.proofs.Inserts.{found_passes}
use Rattle.card_type.specs.declared.key.ChatKey.{ChatKey}
use Rattle.card_type.specs.Effects.{is_among}
use Rattle.mailbox_model.specs.Chats.{chat, is_chat}
use Rattle.mailbox_model.specs.Lists.{Bytes}
use Rattle.mailbox_model.specs.Mailbox.{Mailbox, IsMailbox}
use Rattle.mailbox_model.specs.Present.{Mail, has_id, mail_at, contents, present}
use Rattle.mailbox_model.proofs.ChatLaws.{same_bytes}
use Rattle.chat_states.specs.Families.{Family}
use Rattle.chat_states.specs.States.{AreStatesOf, has_key}
use Rattle.indexes.specs.declared.indexes.Indexes.{Indexes}
use Rattle.indexes.specs.Kept.{deadline_among, deadline_at, deadline_of}
use Rattle.repair.specs.declared.place.Place.{Place}
use Rattle.repair.specs.declared.touched.Touched.{Touched}
use Rattle.repair.specs.Cards.{IsBetween, IsFree, MayNote, card_in, content_at, family_between, has_uid_at}
use Rattle.repair.specs.Turned.{NameOneMail}
use Rattle.repair.specs.Places.{AreSmall, IsPlace, unmarked, with_id}
use Rattle.repair.proofs.Contents.{chat_of_place, found_content, own_id}
use Rattle.repair.proofs.Pending.{as_before, few_between, few_others, settled, twice}
use Rattle.repair.proofs.SamePlace.{AreAt, same_but_mark, same_uid_at}

-- ---- results, and what is left as it was

pub on_ok_four : {T E A B C D P : Type 0} (r : Result T E) → OnOk r A → OnOk r B → OnOk r C → OnOk r D → (A → B → C → D → P) → OnOk r P
on_ok_four (Ok x) a b c d f = f a b c d
on_ok_four (Err e) a b c d f = tt

pub on_ok_five : {T E A B C D F P : Type 0} (r : Result T E) → OnOk r A → OnOk r B → OnOk r C → OnOk r D → OnOk r F
    → (A → B → C → D → F → P) → OnOk r P
on_ok_five (Ok x) a b c d e f = f a b c d e
on_ok_five (Err y) a b c d e f = tt

-- what has other chats and timers than one that has other ones
pub rest_through : (old mid x : Indexes) → mid ≡ record old { chats = mid.chats; timers = mid.timers }
    → x ≡ record mid { chats = x.chats; timers = x.timers } → x ≡ record old { chats = x.chats; timers = x.timers }
rest_through old mid x first second = second ∙ ap (λ (y : Indexes). record y { chats = x.chats; timers = x.timers }) first

-- ---- one card is settled

module _ (m n : Mailbox) (before : IsMailbox m) (after : IsMailbox n) (one : NameOneMail m n) (id : Bytes) (pending : List Bytes)
    (new : is_among pending id ≡ false) where
  -- ---- uids

  -- one that no other card has is free, where this one does not have it
  still_free : (uid : ℕ) → IsFree m n pending uid → has_uid_at m id uid ≡ false → has_uid_at n id uid ≡ false → IsFree m n (id ∷ pending) uid
  still_free uid free not_before not_after i h = by (bytes_eq i id) refl h
    where
      by : (b : Bool) → bytes_eq i id ≡ b → (b || is_among pending i) ≡ true → (has_uid_at m i uid ≡ false) × (has_uid_at n i uid ≡ false)
      by true e h =
          let same : i ≡ id = (bytes_decides i id).0 e in
          (ap (λ j. has_uid_at m j uid) same ∙ not_before, ap (λ j. has_uid_at n j uid) same ∙ not_after)
      by false e h = free i h

  -- the mail that had it has no deadline any more
  no_deadline : (uid : ℕ) → has_uid_at m id uid ≡ true → has_uid_at n id uid ≡ false → deadline_among n (present n) uid ≡ None
  no_deadline uid had gone = by (content_at m id) refl had (find (λ t. t.placed.uid == uid) (contents n)) refl
    where
      by : (o : Option Mail) → content_at m id ≡ o → option_map_or (λ t. t.placed.uid == uid) o false ≡ true
          → (p : Option Mail) → find (λ t. t.placed.uid == uid) (contents n) ≡ p → option_and_then (deadline_of n) p ≡ None
      by None e h p f = cc
      by (Some t) e h None f = refl
      by (Some t) e h (Some u) f =
          let own : u.placed.uid ≡ uid = eqb-true u.placed.uid uid (found_passes (λ t. t.placed.uid == uid) (contents n) u f) in
          let here = found_content n after (λ t. t.placed.uid == uid) u f in
          let card = one uid t u
          (subst (λ k. mail_at m k ≡ Some t) (eqb-true t.placed.uid uid h) (found_content m before (has_id id) t e).mail)
          (subst (λ k. mail_at n k ≡ Some u) own here.mail) in
          let same : id ≡ u.placed.card.id = own_id m id t e ∙ ap (λ c. c.id) card in
          let there : content_at n id ≡ Some u = ap (content_at n) same ∙ here.by_id in
          absurd (both_ways (has_uid_at n id uid) gone (ap (λ o. option_map_or (λ t. t.placed.uid == uid) o false) there ∙ eq-eqb u.placed.uid uid own))

  module _ (was is : Touched) (start old x : Indexes) (kept : IsBetween m n (id ∷ pending) was start old)
      (noted : (key : ChatKey) → has_key is.touched key ≡ (has_key was.touched key || (is_chat key (chat m id) || is_chat key (chat n id))))
      (rest : x ≡ record old { chats = x.chats; timers = x.timers }) where
    -- ---- chats

    -- one that is not noted was not, and has not had the card
    record IsApart (key : ChatKey) : Type 0 where
      pub unnoted : has_key was.touched key ≡ false
      pub not_before : is_chat key (chat m id) ≡ false
      pub not_after : is_chat key (chat n id) ≡ false

    far : (key : ChatKey) → has_key is.touched key ≡ false → IsApart key
    far key h =
        let parts = or_parts (has_key was.touched key) (is_chat key (chat m id) || is_chat key (chat n id)) (sym (noted key) ∙ h) in
        let places = or_parts (is_chat key (chat m id)) (is_chat key (chat n id)) parts.1 in
        record { unnoted = parts.0; not_before = places.0; not_after = places.1 }

    marked_alike : ((key : ChatKey) → IsApart key → has_key is.unsettled key ≡ has_key was.unsettled key)
        → (key : ChatKey) → has_key is.unsettled key ≡ true → has_key is.touched key ≡ true
    marked_alike same key h = by (has_key is.touched key) refl
      where
        by : (b : Bool) → has_key is.touched key ≡ b → b ≡ true
        by true e = refl
        by false e =
            let apart = far key e in
            sym apart.unnoted ∙ kept.marked key (sym (same key apart) ∙ h)

    all_rest : x ≡ record start { chats = x.chats; timers = x.timers }
    all_rest = rest_through start old x kept.rest rest

    -- the card stays at its place, and is marked anew
    pub stayed : AreAt m n id → is.unsettled ≡ was.unsettled
        → ((unsettled : ChatKey → Bool) (family : Family) → AreSmall family
        → ((key : ChatKey) → option_map unmarked (family key id) ≡ option_map unmarked (card_in n key id))
        → AreStatesOf n.me unsettled family old.chats
        → AreStatesOf n.me unsettled (with_id id (λ key. card_in n key id) family) x.chats)
        → ((key : ChatKey) → is_chat key (chat n id) ≡ false → map_of.get x.chats key ≡ map_of.get old.chats key)
        → ((uid : ℕ) → deadline_at x.timers uid ≡ (if has_uid_at n id uid then deadline_among n (present n) uid else deadline_at old.timers uid))
        → IsBetween m n pending is start x
    stayed are unchanged states others timers = record {
      states = subst (λ u. AreStatesOf n.me (has_key u) (family_between m n pending) x.chats) (sym unchanged)
          (subst (λ f. AreStatesOf n.me (has_key was.unsettled) f x.chats) (settled m n id pending new)
          (states (has_key was.unsettled) (family_between m n (id ∷ pending)) (few_between m n before after (id ∷ pending)) alike kept.states));
      deadlines = λ uid free. timers uid ∙ deadline uid free (has_uid_at n id uid) refl;
      others = λ key h. let apart = far key h in others key apart.not_after ∙ kept.others key apart.unnoted;
      marked = marked_alike (λ key apart. ap (λ u. has_key u key) unchanged);
      rest = all_rest;
    }
      where
        alike : (key : ChatKey) → option_map unmarked (family_between m n (id ∷ pending) key id) ≡ option_map unmarked (card_in n key id)
        alike key = ap (option_map unmarked) (as_before m n id pending key) ∙ same_but_mark m n before after one id are key

        deadline : (uid : ℕ) → IsFree m n pending uid → (b : Bool) → has_uid_at n id uid ≡ b
            → (if b then deadline_among n (present n) uid else deadline_at old.timers uid) ≡ deadline_among n (present n) uid
        deadline uid free true e = refl
        deadline uid free false e = kept.deadlines uid (still_free uid free (same_uid_at m n before after one id are uid ∙ e) e)

    -- the card leaves the chat in which it was, and comes into that in which it is
    pub moved : (mid : Indexes) (unchanged unsettled : List ChatKey) → unchanged ≡ was.unsettled
        → ((me : Bytes) (family : Family) → AreSmall family → ((key : ChatKey) → family key id ≡ card_in m key id)
        → AreStatesOf me (has_key unchanged) family old.chats
        → AreStatesOf me (has_key unsettled) (with_id id (λ key. None) family) mid.chats)
        → ((family : Family) → AreSmall family → ((key : ChatKey) → family key id ≡ None)
        → AreStatesOf n.me (has_key unsettled) family mid.chats
        → AreStatesOf n.me (has_key is.unsettled) (with_id id (λ key. card_in n key id) family) x.chats)
        → ((key : ChatKey) → is_chat key (chat m id) ≡ false → map_of.get mid.chats key ≡ map_of.get old.chats key)
        → ((key : ChatKey) → is_chat key (chat n id) ≡ false → map_of.get x.chats key ≡ map_of.get mid.chats key)
        → ((key : ChatKey) → MayNote (is_chat key (chat m id)) (has_key unchanged key) (has_key unsettled key))
        → ((key : ChatKey) → MayNote (is_chat key (chat n id)) (has_key unsettled key) (has_key is.unsettled key))
        → ((uid : ℕ) → deadline_at mid.timers uid ≡ (if has_uid_at m id uid then None else deadline_at old.timers uid))
        → ((uid : ℕ) → deadline_at x.timers uid ≡ (if has_uid_at n id uid then deadline_among n (present n) uid else deadline_at mid.timers uid))
        → IsBetween m n pending is start x
    moved mid unchanged unsettled same left came left_others came_others left_notes came_notes left_timers came_timers = record {
      states = subst (λ f. AreStatesOf n.me (has_key is.unsettled) f x.chats)
          (twice id (λ key. None) (λ key. card_in n key id) family ∙ settled m n id pending new)
          (came without (few_others id family few) (λ key. gone key) (left n.me family few (as_before m n id pending) as_was));
      deadlines = λ uid free. came_timers uid ∙ deadline uid free (has_uid_at n id uid) refl (has_uid_at m id uid) refl;
      others = λ key h. let apart = far key h in came_others key apart.not_after ∙ left_others key apart.not_before ∙ kept.others key apart.unnoted;
      marked = marked_alike (λ key apart. (came_notes key).other apart.not_after ∙ (left_notes key).other apart.not_before ∙ ap (λ u. has_key u key) same);
      rest = all_rest;
    }
      where
        family : Family
        family = family_between m n (id ∷ pending)

        without : Family
        without = with_id id (λ key. None) family

        few : AreSmall family
        few = few_between m n before after (id ∷ pending)

        as_was : AreStatesOf n.me (has_key unchanged) family old.chats
        as_was = subst (λ u. AreStatesOf n.me (has_key u) family old.chats) (sym same) kept.states

        gone : (key : ChatKey) → without key id ≡ None
        gone key = ap (λ b. if b then None else family key id) (same_bytes id)

        deadline : (uid : ℕ) → IsFree m n pending uid → (b : Bool) → has_uid_at n id uid ≡ b → (c : Bool) → has_uid_at m id uid ≡ c
            → (if b then deadline_among n (present n) uid else deadline_at mid.timers uid) ≡ deadline_among n (present n) uid
        deadline uid free true e c h = refl
        deadline uid free false e true h =
            left_timers uid
            ∙ ap (λ b. if b then None else deadline_at old.timers uid) h
            ∙ sym (no_deadline uid h e)
        deadline uid free false e false h =
            left_timers uid
            ∙ ap (λ b. if b then None else deadline_at old.timers uid) h
            ∙ kept.deadlines uid (still_free uid free h e)

-- ---- the chats of both places are noted

pub noted_both : (m n : Mailbox) (id : Bytes) (before after : Option Place) → IsPlace m id before → IsPlace n id after
    → (first second third : List ChatKey)
    → ((key : ChatKey) → has_key second key ≡ (has_key first key || is_chat key (option_map (λ p. p.chat) before)))
    → ((key : ChatKey) → has_key third key ≡ (has_key second key || is_chat key (option_map (λ p. p.chat) after)))
    → (key : ChatKey) → has_key third key ≡ (has_key first key || (is_chat key (chat m id) || is_chat key (chat n id)))
noted_both m n id before after was is first second third one other key =
    other key
    ∙ ap (λ b. b || is_chat key (option_map (λ p. p.chat) after)) (one key)
    ∙ regrouped (has_key first key) (is_chat key (option_map (λ p. p.chat) before)) (is_chat key (option_map (λ p. p.chat) after))
    ∙ (λ i. has_key first key || (is_chat key (chat_of_place m id before was i) || is_chat key (chat_of_place n id after is i)))
  where
    regrouped : (a b c : Bool) → ((a || b) || c) ≡ (a || (b || c))
    regrouped true b c = refl
    regrouped false b c = refl
