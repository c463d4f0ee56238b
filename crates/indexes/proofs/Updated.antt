-- The mail of kind Content with an id, of which the updates of an app are asked.
use Rattle.std.proofs.Common.{Bor, ◌≡◌, refl, sym, ap, ◌∙◌, subst, true, false, Option, Some, None, List, [], ◌∷◌, map}
use Rattle.std.specs.Prelude.{◌||◌, find, is_some}
use Rattle.std.specs.List.{list_any}
use Rattle.std.specs.Option.{option_map, option_and_then, option_copied}
use Rattle.std.specs.Cmp.Lexicographic.{bytes_decides}
use Rattle.lists.proofs.Inserts.{All-filter, found_all, found_passes, list_any-found}
use Rattle.card_type.specs.declared.spot.Spot.{Spot}
use Rattle.card_type.specs.Kinds.{is_content, kind_of}
use Rattle.mailbox_model.specs.declared.links.Cites.{Cites}
use Rattle.mailbox_model.specs.declared.row.Row.{Row}
use Rattle.mailbox_model.specs.Chats.{cites_by, is_id_among}
use Rattle.mailbox_model.specs.Lists.{Bytes}
use Rattle.mailbox_model.specs.Mailbox.{Mailbox, IsMailbox}
use Rattle.mailbox_model.specs.Pages.{app_updates, updates}
use Rattle.mailbox_model.specs.Present.{Mail, contents, has_id, mail_at, present, spot, spot_of}
use Rattle.mailbox_model.specs.Rows.{row}
use Rattle.thread_links.specs.Linked.{cites_among}
use Rattle.indexes.specs.Costs.{times_named}
use Rattle.indexes.specs.Kept.{spot_at}
use Rattle.indexes.proofs.Mails.{IsPresent, each_present, lent_is, one_of}

module _ (m : Mailbox) (id : Bytes) where
  any_cited : (ts : List Mail) → is_id_among (map (λ t. cites_by m.me (spot t.placed) t.placed.card) ts) id ≡ list_any (has_id id) ts
  any_cited [] = refl
  any_cited (t ∷ ts) = ap (λ b. has_id id t || b) (any_cited ts)

  cited_is : (cites : List Cites) → cites ≡ cites_among m.me (present m) → is_id_among cites id ≡ is_some (find (has_id id) (contents m))
  cited_is cites are = ap (λ ts. is_id_among ts id) are ∙ any_cited (contents m) ∙ list_any-found (has_id id) (contents m)

  -- where no content has the id there are none
  pub none_shown : (cites : List Cites) → cites ≡ cites_among m.me (present m) → is_id_among cites id ≡ false → None ≡ updates m id
  none_shown cites are h = by (find (has_id id) (contents m)) refl (sym (cited_is cites are) ∙ h)
    where
      by : (o : Option Mail) → find (has_id id) (contents m) ≡ o → is_some o ≡ false → None ≡ updates m id
      by None k h = sym (ap (λ o. option_and_then app_updates (option_and_then (row m) o)) k)
      by (Some t) k h = cc

  -- at this spot is the mail with the id
  pub record IsAsked (s : Spot) : Type 0 where
    pub there : spot_at m s.uid ≡ Some s
    pub answer : (shown : Option Row) → ((t : Mail) → mail_at m s.uid ≡ Some t → shown ≡ row m t) → option_and_then app_updates shown ≡ updates m id
    pub named : times_named m s.id ≡ times_named m id

  module _ (rules : IsMailbox m) (cites : List Cites) (are : cites ≡ cites_among m.me (present m)) (h : is_id_among cites id ≡ true) where
    found : (t : Mail) × (find (has_id id) (contents m) ≡ Some t)
    found = one_of (find (has_id id) (contents m)) (sym (cited_is cites are) ∙ h)

    here : IsPresent m found.0
    here =
        found_all (IsPresent m) (has_id id) (contents m) found.0 (All-filter (IsPresent m) (λ t. is_content (kind_of t.placed.card)) (present m) (each_present m rules)) found.1

    own : found.0.placed.card.id ≡ id
    own = sym ((bytes_decides id found.0.placed.card.id).0 (found_passes (has_id id) (contents m) found.0 found.1))

    pub asked : Spot
    asked = spot found.0.placed

    pub spot_is_asked : spot_of m id ≡ Some asked
    unfolding asked
    spot_is_asked = ap (option_map (λ t. spot t.placed)) (subst (λ i. find (has_id i) (present m) ≡ Some found.0) own here.first)

    is_asked : IsAsked asked
    unfolding asked found
    is_asked = record {
      there = ap (option_map (λ t. spot t.placed)) here.mail;
      answer = λ shown f. ap (option_and_then app_updates) (f found.0 here.mail) ∙ sym (ap (λ o. option_and_then app_updates (option_and_then (row m) o)) found.1);
      named = ap (times_named m) own;
    }

    -- where that is lent
    pub lent_asked : (o : Option (Bor Spot)) (b : Bor Spot) → option_copied o ≡ spot_of m id → o ≡ Some b → IsAsked b.now
    lent_asked o b k e = subst IsAsked (sym (lent_is o asked b (k ∙ spot_is_asked) e)) is_asked
