-- The dates of chats in the order of the list, where chats are put at their places or dropped.
use Rattle.std.proofs.Common.{◌≡◌, refl, sym, ap, ◌∙◌, ℕ, Bool, true, false, not, ◌||◌, cond, Option, Some, None, List, [], ◌∷◌, ◌++◌}
use Rattle.std.specs.Prelude.{if◌then◌else◌, find}
use Rattle.std.specs.Option.{option_map}
use Rattle.std.proofs.lemmas.Bool.{or_left, or_right}
use Rattle.std.proofs.lemmas.List.Folds.{list_any-append}
use Rattle.card_type.specs.declared.key.ChatKey.{ChatKey}
use Rattle.card_type.specs.Keys.{key_eq}
use Rattle.chatlist.specs.Places.{without_key}
use Rattle.mailbox_model.specs.ChatList.{Dated}
use Rattle.mailbox_model.proofs.ListLaws.{key_same, key_turn}
use Rattle.chat_states.specs.States.{has_key}
use Rattle.indexes.specs.Kept.{date_at}

pub date_without : (key : ChatKey) (order : List Dated) (other : ChatKey)
    → date_at (without_key key order) other ≡ (if key_eq key other then None else date_at order other)
date_without key [] other = by (key_eq key other)
  where
    by : (b : Bool) → date_at [] other ≡ (if b then None else date_at [] other)
    by true = refl
    by false = refl
date_without key (d ∷ ds) other = by (key_eq key d.0) refl (date_without key ds other)
  where
    by : (b : Bool) → key_eq key d.0 ≡ b → date_at (without_key key ds) other ≡ (if key_eq key other then None else date_at ds other)
        → date_at (cond (not b) (d ∷ without_key key ds) (without_key key ds)) other ≡ (if key_eq key other then None else date_at (d ∷ ds) other)
    by true e rest = rest ∙ drop (key_eq other d.0) refl
      where
        drop : (c : Bool) → key_eq other d.0 ≡ c → (if key_eq key other then None else date_at ds other) ≡ (if key_eq key other then None else option_map (λ d. d.1) (cond c (Some d) (find (λ d. key_eq other d.0) ds)))
        drop true k = let same : key_eq key other ≡ true = ap (key_eq key) (key_same other d.0 k) ∙ e in rw same refl
        drop false k = refl
    by false e rest = keep (key_eq other d.0) refl
      where
        keep : (c : Bool) → key_eq other d.0 ≡ c → option_map (λ d. d.1) (cond c (Some d) (find (λ d. key_eq other d.0) (without_key key ds))) ≡ (if key_eq key other then None else option_map (λ d. d.1) (cond c (Some d) (find (λ d. key_eq other d.0) ds)))
        keep true k = let apart : key_eq key other ≡ false = ap (key_eq key) (key_same other d.0 k) ∙ e in rw apart refl
        keep false k = rest

-- one more chat is at its place
pub more_places : (keys : List ChatKey) (key k : ChatKey) (date : ChatKey → Option (Option ℕ)) (before after start : Option (Option ℕ))
    → after ≡ (if key_eq key k then date key else before) → before ≡ (if has_key keys k then date k else start)
    → after ≡ (if has_key (keys ++ key ∷ []) k then date k else start)
more_places keys key k date before after start h was =
    elim (key_eq k key) as (λ b. key_eq k key ≡ b → after ≡ (if has_key (keys ++ key ∷ []) k then date k else start)) [
      | true ↦ λ e.
          h
          ∙ ap (λ b. if b then date key else before) (key_turn key k ∙ e)
          ∙ ap date (sym (key_same k key e))
          ∙ sym (ap (λ b. if b then date k else start) (list_any-append (key_eq k) keys (key ∷ []) ∙ or_right (has_key keys k) (key_eq k key || false) (or_left (key_eq k key) false e)))
      | false ↦ λ e.
          h
          ∙ ap (λ b. if b then date key else before) (key_turn key k ∙ e)
          ∙ was
          ∙ sym (ap (λ b. if b then date k else start) (list_any-append (key_eq k) keys (key ∷ []) ∙ ap (λ b. has_key keys k || (b || false)) e ∙ or_false (has_key keys k)))
    ] refl
  where
    or_false : (b : Bool) → (b || false) ≡ b
    or_false true = refl
    or_false false = refl
