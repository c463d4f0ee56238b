-- Where no card came into a chat or left it, its ids are the same before and after.
use Rattle.std.proofs.Common.{◌≡◌, refl, sym, ap, ◌∙◌, subst, Bool, true, false, ◌||◌, Option, Some, None, is_some, List, [], ◌∷◌, ◌++◌}
use Rattle.std.specs.Prelude.{if◌then◌else◌, filter_map}
use Rattle.std.specs.List.{list_any, cons_option}
use Rattle.std.specs.Option.{option_eq}
use Rattle.std.specs.Str.{bytes_eq}
use Rattle.std.specs.Cmp.Lexicographic.{bytes_decides}
use Rattle.std.proofs.lemmas.Bool.{or_parts, false≢true}
use Rattle.std.proofs.lemmas.List.Folds.{list_any-append}
use Rattle.card_type.specs.declared.key.ChatKey.{ChatKey}
use Rattle.card_type.specs.Keys.{key_eq}
use Rattle.mailbox_model.specs.declared.links.Cites.{Cites}
use Rattle.mailbox_model.specs.declared.links.Moved.{Moved}
use Rattle.mailbox_model.specs.Lists.{Bytes}
use Rattle.mailbox_model.specs.Mailbox.{Mailbox}
use Rattle.mailbox_model.specs.Chats.{chat, chat_among, cites, is_chat, is_id_among, moved, moves}
use Rattle.mailbox_model.proofs.ChatLaws.{is_some-known_chat}
use Rattle.mailbox_model.proofs.ListLaws.{key_same}
use Rattle.touched_chats.specs.Suspects.{is_end, is_moved}

-- no id comes into a chat or leaves it
abbrev pub Unmoved : Mailbox → Mailbox → ChatKey → Type 0
Unmoved m n key = (id : Bytes) → is_chat key (chat m id) ≡ is_chat key (chat n id)

pub one_key : (a b : Option ChatKey) → option_eq key_eq a b ≡ true → a ≡ b
one_key None None e = refl
one_key None (Some k) e = absurd (false≢true e)
one_key (Some k) None e = absurd (false≢true e)
one_key (Some k) (Some l) e = ap Some (key_same k l e)

both_false : (b c : Bool) → (b || c) ≡ false → b ≡ c
both_false b c h = let parts = or_parts b c h in parts.0 ∙ sym parts.1

-- a card of another chat than before was not in this one, and is not
not_here : (key : ChatKey) (id : Bytes) (before after : Option ChatKey) (rest : List Moved)
    → list_any (is_end key) (cons_option (moved id before after) rest) ≡ false
    → (is_chat key before ≡ is_chat key after) × (list_any (is_end key) rest ≡ false)
not_here key id before after rest = by (option_eq key_eq before after) refl
  where
    by : (b : Bool) → option_eq key_eq before after ≡ b
        → list_any (is_end key) (cons_option (if b then None else Some (record { id = id; before = before; after = after })) rest) ≡ false
        → (is_chat key before ≡ is_chat key after) × (list_any (is_end key) rest ≡ false)
    by true e h = (ap (is_chat key) (one_key before after e), h)
    by false e h =
        let parts = or_parts (is_chat key before || is_chat key after) (list_any (is_end key) rest) h in
        (both_false (is_chat key before) (is_chat key after) parts.0, parts.1)

module _ (key : ChatKey) (before after : List Cites) where
  abbrev StaysIn : Bytes → Type 0
  StaysIn id = is_chat key (chat_among before id) ≡ is_chat key (chat_among after id)

  at_id : (ts : List Cites) (id : Bytes)
      → list_any (is_end key) (filter_map (λ t. moved t.spot.id (chat_among before t.spot.id) (chat_among after t.spot.id)) ts) ≡ false
      → is_id_among ts id ≡ true → StaysIn id
  at_id [] id h there = absurd (false≢true there)
  at_id (t ∷ ts) id h there = by (bytes_eq id t.spot.id) refl (at_id ts id parts.1) there
    where
      parts : StaysIn t.spot.id × (list_any (is_end key) (filter_map (λ t. moved t.spot.id (chat_among before t.spot.id) (chat_among after t.spot.id)) ts) ≡ false)
      parts = not_here key t.spot.id (chat_among before t.spot.id) (chat_among after t.spot.id) (filter_map (λ t. moved t.spot.id (chat_among before t.spot.id) (chat_among after t.spot.id)) ts) h

      by : (b : Bool) → bytes_eq id t.spot.id ≡ b → (is_id_among ts id ≡ true → StaysIn id) → (b || is_id_among ts id) ≡ true → StaysIn id
      by true e rest k = subst StaysIn (sym ((bytes_decides id t.spot.id).0 e)) parts.0
      by false e rest k = rest k

  -- an id that none of these has is in no chat
  no_chat : (ts : List Cites) (id : Bytes) → is_id_among ts id ≡ false → chat_among ts id ≡ None
  no_chat ts id h = none (chat_among ts id) (is_some-known_chat [] ts id ∙ h)
    where
      none : (o : Option ChatKey) → is_some o ≡ false → o ≡ None
      none None e = refl
      none (Some x) e = absurd (false≢true (sym e))

  -- by the moves of any that have all ids
  pub unmoved_among : (all : List Cites) → ((id : Bytes) → is_id_among all id ≡ false → is_id_among before id ≡ false)
      → ((id : Bytes) → is_id_among all id ≡ false → is_id_among after id ≡ false)
      → list_any (is_end key) (moves all before after) ≡ false → (id : Bytes) → StaysIn id
  unmoved_among all old new h id = by (is_id_among all id) refl
    where
      by : (b : Bool) → is_id_among all id ≡ b → StaysIn id
      by true e = at_id all id h e
      by false e = ap (is_chat key) (no_chat before id (old id e) ∙ sym (no_chat after id (new id e)))

  -- both have all
  in_both : (id : Bytes) → is_id_among (before ++ after) id ≡ false → (is_id_among before id ≡ false) × (is_id_among after id ≡ false)
  in_both id e =
      or_parts (is_id_among before id) (is_id_among after id) (sym (list_any-append (λ t. bytes_eq id t.spot.id) before after) ∙ e)

  pub unmoved_ids : is_moved before after key ≡ false → (id : Bytes) → StaysIn id
  unmoved_ids h id = unmoved_among (before ++ after) (λ i e. (in_both i e).0) (λ i e. (in_both i e).1) h id

pub unmoved_chat : (m n : Mailbox) (key : ChatKey) → is_moved (cites m) (cites n) key ≡ false → Unmoved m n key
unmoved_chat m n key h = unmoved_ids key (cites m) (cites n) h
