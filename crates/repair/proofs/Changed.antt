-- Which of the cards that are noted are in another chat now.
use Rattle.std.proofs.Common.{Bor, ◌⊎◌, ◌≡◌, refl, sym, ap, ◌∙◌, Bool, true, false, not, ◌&&◌, ◌||◌, cond, Option, Some, None, inl, inr, List, [], ◌∷◌, ◌++◌, map}
use Rattle.std.specs.List.{AllByRecursion, list_any}
use Rattle.std.specs.List.Sorted.{IsStrictlySortedBy}
use Rattle.std.specs.Map.{lookup}
use Rattle.std.specs.Prelude.{unwrap_or}
use Rattle.std.specs.Cmp.Lexicographic.{slice_cmp, bytes_decides}
use Rattle.std.specs.declared.cmp.Ordering.TheVariants.{Less}
use Rattle.std.specs.Option.{option_copied, option_eq}
use Rattle.std.specs.Ordering.{is_eq, nat_cmp}
use Rattle.std.specs.Str.{bytes_eq}
use Rattle.std.proofs.lemmas.Bool.{cases_Bool}
use Rattle.std.proofs.lemmas.List.Folds.{list_any-append}
use Rattle.std.proofs.lemmas.Map.Text.{is_eq-slice_cmp}
use Rattle.card_type.specs.Keys.{key_eq}
use Rattle.card_type.specs.declared.key.ChatKey.{ChatKey}
use Rattle.mailbox_model.specs.declared.links.Cites.{Cites}
use Rattle.mailbox_model.specs.Chats.{chat_among}
use Rattle.mailbox_model.specs.Lists.{Bytes}
use Rattle.mailbox_model.proofs.ListLaws.{key_self}
use Rattle.repair.specs.Moves.{chat_before}
use Rattle.repair.proofs.Noted.{Entries}

-- an entry is that of an id, and its chat before is another one than the chat now
abbrev pub is_changed : List Cites → Bytes → Bytes × Option ChatKey → Bool
is_changed now id e = bytes_eq id e.0 && not (option_eq key_eq e.1 (chat_among now e.0))

-- ---- all entries

same_chat : (o : Option ChatKey) → option_eq key_eq o o ≡ true
same_chat None = refl
same_chat (Some k) = key_self k

module _ (now : List Cites) where
  none_after : (id : Bytes) (es : Entries) → AllByRecursion (λ k. slice_cmp nat_cmp id k ≡ Less) (map (λ e. e.0) es) → list_any (is_changed now id) es ≡ false
  none_after id [] above = refl
  none_after id (e ∷ es) above =
      ap (λ b. (b && not (option_eq key_eq e.1 (chat_among now e.0))) || list_any (is_changed now id) es) (sym (is_eq-slice_cmp id e.0) ∙ ap is_eq above.0)
      ∙ none_after id es above.1

  pub changed_among : (es : Entries) → IsStrictlySortedBy (slice_cmp nat_cmp) (map (λ e. e.0) es) → (id : Bytes)
      → list_any (is_changed now id) es ≡ not (option_eq key_eq (chat_before es now id) (chat_among now id))
  unfolding IsStrictlySortedBy
  changed_among [] sorted id = sym (ap not (same_chat (chat_among now id)))
  changed_among (e ∷ es) sorted id = by (cases_Bool (bytes_eq id e.0)) (changed_among es sorted.1 id)
    where
      or_false : (b : Bool) → (b || false) ≡ b
      or_false true = refl
      or_false false = refl

      by : (bytes_eq id e.0 ≡ true) ⊎ (bytes_eq id e.0 ≡ false)
          → list_any (is_changed now id) es ≡ not (option_eq key_eq (chat_before es now id) (chat_among now id))
          → list_any (is_changed now id) (e ∷ es) ≡ not (option_eq key_eq (chat_before (e ∷ es) now id) (chat_among now id))
      by (inl h) later =
          let same : id ≡ e.0 = (bytes_decides id e.0).0 h in
          let none : list_any (is_changed now id) es ≡ false = ap (λ q. list_any (is_changed now q) es) same ∙ none_after e.0 es sorted.0 in
          ap (λ b. (b && not (option_eq key_eq e.1 (chat_among now e.0))) || list_any (is_changed now id) es) h
          ∙ ap (λ b. not (option_eq key_eq e.1 (chat_among now e.0)) || b) none ∙ or_false (not (option_eq key_eq e.1 (chat_among now e.0)))
          ∙ ap (λ q. not (option_eq key_eq e.1 (chat_among now q))) (sym same)
          ∙ ap (λ o. not (option_eq key_eq (unwrap_or o (chat_among now id)) (chat_among now id))) (sym (ap (λ b. cond b (Some e.1) (lookup (bytes_eq id) es)) h))
      by (inr h) later =
          ap (λ b. (b && not (option_eq key_eq e.1 (chat_among now e.0))) || list_any (is_changed now id) es) h ∙ later
          ∙ ap (λ o. not (option_eq key_eq (unwrap_or o (chat_among now id)) (chat_among now id))) (sym (ap (λ b. cond b (Some e.1) (lookup (bytes_eq id) es)) h))

-- two chats that are lent are compared as they are
pub lent_chats : (a b : Option (Bor ChatKey)) → option_eq (λ x y. key_eq x.now y.now) a b ≡ option_eq key_eq (option_copied a) (option_copied b)
lent_chats None None = refl
lent_chats None (Some y) = refl
lent_chats (Some x) None = refl
lent_chats (Some x) (Some y) = refl

module _ (now : List Cites) (start keys : List Bytes) (seen : Entries) (e : Bytes × Option ChatKey)
    (so_far : (id : Bytes) → list_any (bytes_eq id) keys ≡ (list_any (bytes_eq id) start || list_any (is_changed now id) seen)) where
  regroup : (id : Bytes) (b : Bool) → bytes_eq id e.0 && not (option_eq key_eq e.1 (chat_among now e.0)) ≡ b
      → (list_any (bytes_eq id) keys || b) ≡ (list_any (bytes_eq id) start || list_any (is_changed now id) (seen ++ e ∷ []))
  regroup id b is =
      ap (λ c. c || b) (so_far id) ∙ joined (list_any (bytes_eq id) start) (list_any (is_changed now id) seen) b
      ∙ ap (λ c. list_any (bytes_eq id) start || c) (sym (list_any-append (is_changed now id) seen (e ∷ []) ∙ ap (λ c. list_any (is_changed now id) seen || (c || false)) is))
    where
      joined : (x y z : Bool) → ((x || y) || z) ≡ (x || (y || (z || false)))
      joined true y z = refl
      joined false true z = refl
      joined false false true = refl
      joined false false false = refl

  pub one_changed : not (option_eq key_eq e.1 (chat_among now e.0)) ≡ true → (after : List Bytes)
      → ((id : Bytes) → list_any (bytes_eq id) after ≡ (list_any (bytes_eq id) keys || bytes_eq id e.0))
      → (id : Bytes) → list_any (bytes_eq id) after ≡ (list_any (bytes_eq id) start || list_any (is_changed now id) (seen ++ e ∷ []))
  one_changed is after more id = more id ∙ regroup id (bytes_eq id e.0) (ap (λ b. bytes_eq id e.0 && b) is ∙ and_true (bytes_eq id e.0))
    where
      and_true : (b : Bool) → (b && true) ≡ b
      and_true true = refl
      and_true false = refl

  pub one_same : not (option_eq key_eq e.1 (chat_among now e.0)) ≡ false → (id : Bytes)
      → list_any (bytes_eq id) keys ≡ (list_any (bytes_eq id) start || list_any (is_changed now id) (seen ++ e ∷ []))
  one_same is id = or_false (list_any (bytes_eq id) keys) ∙ regroup id false (ap (λ b. bytes_eq id e.0 && b) is ∙ and_false (bytes_eq id e.0))
    where
      or_false : (b : Bool) → b ≡ (b || false)
      or_false true = refl
      or_false false = refl

      and_false : (b : Bool) → (b && false) ≡ false
      and_false true = refl
      and_false false = refl
