-- The moves between two lists of cites tell the chats before, and all that is another chat after.
use Rattle.std.proofs.Common.{◌≡◌, refl, sym, ◌∙◌, ap, ⊎_elim, Bool, true, false, ◌||◌, cond, not, Option, Some, None, is_some, List, [], ◌∷◌}
use Rattle.std.specs.Prelude.{if◌then◌else◌}
use Rattle.std.specs.List.{AllByRecursion, cons_option, list_any}
use Rattle.std.specs.Option.{option_eq}
use Rattle.std.specs.Str.{bytes_eq}
use Rattle.std.specs.Cmp.Lexicographic.{bytes_decides}
use Rattle.std.proofs.lemmas.Bool.{cases_Bool, false≢true, or_parts}
use Rattle.lists.specs.Sorted.{insert_by}
use Rattle.lists.proofs.Inserts.{list_any-insert_by}
use Rattle.card_type.specs.declared.key.ChatKey.{ChatKey}
use Rattle.card_type.specs.Keys.{key_eq}
use Rattle.mailbox_model.specs.declared.links.Cites.{Cites}
use Rattle.mailbox_model.specs.declared.links.Moved.{Moved}
use Rattle.mailbox_model.specs.Lists.{Bytes}
use Rattle.mailbox_model.specs.Chats.{chat_among, cites_cmp, is_id_among, moves}
use Rattle.mailbox_model.proofs.ChatLaws.{is_some-known_chat}
use Rattle.touched_chats.proofs.Moving.{one_key}
use Rattle.thread_links.specs.Linked.{without_id}
use Rattle.indexes.specs.Moves.{IsTold}

-- ---- a card without cites has no chat

no_chat : (ts : List Cites) (id : Bytes) → is_id_among ts id ≡ false → chat_among ts id ≡ None
no_chat ts id h = none (chat_among ts id) (is_some-known_chat [] ts id ∙ h)
  where
    none : (o : Option ChatKey) → is_some o ≡ false → o ≡ None
    none None e = refl
    none (Some k) e = absurd (false≢true (sym e))

-- ---- the moves of some

module _ (before after : List Cites) where
  abbrev told_of : List Cites → List Moved
  told_of ts = moves ts before after

  each_told : (ts : List Cites) → AllByRecursion (λ move. move.before ≡ chat_among before move.id) (told_of ts)
  each_told [] = tt
  each_told (t ∷ ts) =
      elim (option_eq key_eq (chat_among before t.spot.id) (chat_among after t.spot.id)) as (λ b. AllByRecursion (λ move. move.before ≡ chat_among before move.id)
      (cons_option (if b then None else Some (record { id = t.spot.id; before = chat_among before t.spot.id; after = chat_among after t.spot.id })) (told_of ts))) [
        | true ↦ each_told ts
        | false ↦ (refl, each_told ts)
      ]

  -- one of which no move is told is in the same chat
  same_chat : (ts : List Cites) (id : Bytes) → is_id_among ts id ≡ true → list_any (λ move. bytes_eq id move.id) (told_of ts) ≡ false
      → chat_among before id ≡ chat_among after id
  same_chat [] id = λ h n. absurd (false≢true h)
  same_chat (t ∷ ts) id = by (bytes_eq id t.spot.id) (option_eq key_eq (chat_among before t.spot.id) (chat_among after t.spot.id)) refl refl (same_chat ts id)
    where
      own : Moved
      own = record { id = t.spot.id; before = chat_among before t.spot.id; after = chat_among after t.spot.id }

      tells_it : List Moved → Bool
      tells_it told = list_any (λ move. bytes_eq id move.id) told

      by : (b same : Bool) → bytes_eq id t.spot.id ≡ b → option_eq key_eq (chat_among before t.spot.id) (chat_among after t.spot.id) ≡ same
          → (is_id_among ts id ≡ true → tells_it (told_of ts) ≡ false → chat_among before id ≡ chat_among after id)
          → (b || is_id_among ts id) ≡ true → tells_it (cons_option (if same then None else Some own) (told_of ts)) ≡ false
          → chat_among before id ≡ chat_among after id
      by true true e k later h n =
          let is : id ≡ t.spot.id = (bytes_decides id t.spot.id).0 e in
          ap (chat_among before) is ∙ one_key (chat_among before t.spot.id) (chat_among after t.spot.id) k ∙ ap (chat_among after) (sym is)
      by true false e k later h n = absurd (false≢true (sym (or_parts (bytes_eq id t.spot.id) (tells_it (told_of ts)) n).0 ∙ e))
      by false true e k later h n = later h n
      by false false e k later h n = later h (or_parts (bytes_eq id t.spot.id) (tells_it (told_of ts)) n).1

  -- where these are all that have a chat before or after
  pub are_told : (all : List Cites) → ((id : Bytes) → is_id_among all id ≡ false → (is_id_among before id ≡ false) × (is_id_among after id ≡ false))
      → IsTold (told_of all) before after
  are_told all others = record {
    each = each_told all;
    others = λ id n. ⊎_elim (λ h. same_chat all id h n) (λ h. let none = others id h in no_chat before id none.0 ∙ sym (no_chat after id none.1)) (cases_Bool (is_id_among all id));
  }

-- ---- a card that comes or goes

pub told_added : (x : Cites) (before after : List Cites) → after ≡ insert_by cites_cmp x before → IsTold (moves after before after) before after
told_added x before after is =
    are_told before after after (λ id n. ((or_parts (bytes_eq id x.spot.id) (is_id_among before id) (among id n)).1, n))
  where
    among : (id : Bytes) → is_id_among after id ≡ false → (bytes_eq id x.spot.id || is_id_among before id) ≡ false
    among id n = sym (ap (λ ts. is_id_among ts id) is ∙ list_any-insert_by cites_cmp (λ e. bytes_eq id e.spot.id) x before) ∙ n

pub told_removed : (gone : Bytes) (before after : List Cites) → after ≡ without_id gone before → IsTold (moves before before after) before after
told_removed gone before after is = are_told before after before (λ id n. (n, ap (λ ts. is_id_among ts id) is ∙ fewer id before n))
  where
    fewer : (id : Bytes) (ts : List Cites) → is_id_among ts id ≡ false → is_id_among (without_id gone ts) id ≡ false
    fewer id [] n = refl
    fewer id (t ∷ ts) n =
        let parts = or_parts (bytes_eq id t.spot.id) (is_id_among ts id) n in
        elim (not (bytes_eq gone t.spot.id)) as (λ b. is_id_among (cond b (t ∷ without_id gone ts) (without_id gone ts)) id ≡ false) [
          | true ↦ ap (λ b. b || is_id_among (without_id gone ts) id) parts.0 ∙ fewer id ts parts.1
          | false ↦ fewer id ts parts.1
        ]

pub told_none : (cites : List Cites) → IsTold [] cites cites
told_none cites = record { each = tt; others = λ id n. refl }
