-- The cites of mails when one comes in or leaves.
use Rattle.std.proofs.Common.{◌≡◌, refl, ap, ◌∙◌, Bool, true, false, ◌||◌, List, map}
use Rattle.std.specs.Prelude.{if◌then◌else◌, filter}
use Rattle.std.specs.List.{list_any, IsDistinct}
use Rattle.std.specs.List.Sorted.{IsStrictlySortedBy}
use Rattle.std.specs.Str.{bytes_eq}
use Rattle.lists.specs.Sorted.{insert_by}
use Rattle.lists.proofs.Inserts.{None_of, none_filtered, All-filter, list_any-insert_by}
use Rattle.lists.proofs.OneMore.{none_among, All-map, none_alike, map-insert_by, filter-insert_by, filter-taken}
use Rattle.card_type.specs.Kinds.{kind_of, is_content}
use Rattle.mailbox_model.specs.declared.links.Cites.{Cites}
use Rattle.mailbox_model.specs.Lists.{Bytes}
use Rattle.mailbox_model.specs.Present.{Mail, mail_cmp, same_id}
use Rattle.mailbox_model.specs.Chats.{cites_cmp, is_id_among}
use Rattle.mailbox_model.specs.Turns.{with_mail}
use Rattle.mailbox_model.proofs.ChatLaws.{same_bytes, cites_at}
use Rattle.mailbox_model.proofs.MailLaws.{order, is_alike}
use Rattle.mailbox_model.proofs.OneMail.{others_in_order}
use Rattle.thread_links.specs.Linked.{without_id, cites_among}

abbrev content : Mail → Bool
content t = is_content (kind_of t.placed.card)

module _ (me : Bytes) (t : Mail) (ts : List Mail) where
  abbrev id : Bytes
  id = t.placed.card.id

  abbrev its_id : Cites → Bool
  its_id c = bytes_eq id c.spot.id

  -- ---- the others

  module _ (once : IsDistinct same_id (with_mail t ts)) where
    no_cites : None_of its_id (cites_among me ts)
    no_cites =
        All-map (λ c. its_id c ≡ false) (cites_at me) (filter content ts)
        (All-filter (λ u. same_id t u ≡ false) content ts (none_alike mail_cmp same_id is_alike.turn t ts once))

    pub cites_absent : is_id_among (cites_among me ts) id ≡ false
    cites_absent = none_among its_id (cites_among me ts) no_cites

  -- ---- all

  module _ (sorted : IsStrictlySortedBy mail_cmp (with_mail t ts)) where
    pub cites_added : cites_among me (with_mail t ts) ≡ (if content t then insert_by cites_cmp (cites_at me t) (cites_among me ts) else cites_among me ts)
    cites_added =
        ap (map (cites_at me)) (filter-insert_by mail_cmp order content t ts (others_in_order t ts sorted))
        ∙ elim (content t) as (λ b. map (cites_at me) (if b then insert_by mail_cmp t (filter content ts) else filter content ts) ≡ (if b then insert_by cites_cmp (cites_at me t) (cites_among me ts) else cites_among me ts)) [
          | true ↦ map-insert_by mail_cmp (cites_at me) cites_cmp (λ x y. refl) t (filter content ts)
          | false ↦ refl
        ]

    module _ (once : IsDistinct same_id (with_mail t ts)) where
      pub cites_removed : without_id id (cites_among me (with_mail t ts)) ≡ cites_among me ts
      cites_removed =
          ap (without_id id) cites_added
          ∙ elim (content t) as (λ b. without_id id (if b then insert_by cites_cmp (cites_at me t) (cites_among me ts) else cites_among me ts) ≡ cites_among me ts) [
            | true ↦ filter-taken cites_cmp its_id (cites_at me t) (cites_among me ts) (same_bytes id) (no_cites once)
            | false ↦ none_filtered its_id (cites_among me ts) (no_cites once)
          ]

      pub cites_there : is_id_among (cites_among me (with_mail t ts)) id ≡ content t
      cites_there =
          ap (λ cs. is_id_among cs id) cites_added
          ∙ elim (content t) as (λ b. is_id_among (if b then insert_by cites_cmp (cites_at me t) (cites_among me ts) else cites_among me ts) id ≡ b) [
            | true ↦ list_any-insert_by cites_cmp its_id (cites_at me t) (cites_among me ts) ∙ ap (λ b. b || list_any its_id (cites_among me ts)) (same_bytes id)
            | false ↦ cites_absent once
          ]
