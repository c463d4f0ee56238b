-- The state of a chat, which is taken out of a map, takes a card and is put back.
use Rattle.std.proofs.Common.{◌≡◌, sym, ap, ◌∙◌, false, cond, Option, Some, None, List, ◌++◌}
use Rattle.std.specs.FinMap as map_of
use Rattle.std.specs.Ordering.{is_eq, eq_by_cmp}
use Rattle.std.proofs.lemmas.Cmp.{tied_itself}
use Rattle.card_type.specs.declared.key.ChatKey.{ChatKey}
use Rattle.card_type.specs.Keys.{key_cmp, key_eq}
use Rattle.card_type.proofs.Orders.{keys_total}
use Rattle.chat_view.specs.declared.state.ChatState.{ChatState}
use Rattle.chat_view.specs.Changes.{AreFew}
use Rattle.chat_view.specs.Standing.{StandsFor, state_of}
use Rattle.mailbox_model.specs.Lists.{Bytes}
use Rattle.mailbox_model.specs.States.{Shown}
use Rattle.mailbox_model.proofs.ListLaws.{key_turn}
use Rattle.indexes.proofs.OrderedDates.{keys_tie}

-- ---- put back in place of what was taken out

module _ {X : Type 0} (before left after : map_of.FinMap key_cmp X) (key : ChatKey) (x : X)
    (taken : left ≡ map_of.remove before key) (put : after ≡ map_of.insert left key x) where
  pub at_key : map_of.get after key ≡ Some x
  at_key =
      ap (λ m. map_of.get m key) put ∙ map_of.get-insert keys_total left key x key
      ∙ ap (λ o. cond (is_eq o) (Some x) (map_of.get left key)) (tied_itself keys_total key)

  pub at_other : (other : ChatKey) → key_eq key other ≡ false → map_of.get after other ≡ map_of.get before other
  at_other other h =
      let apart : eq_by_cmp key_cmp other key ≡ false = keys_tie other key ∙ key_turn other key ∙ h in
      ap (λ m. map_of.get m other) put ∙ map_of.get-insert keys_total left key x other
      ∙ ap (λ b. cond b (Some x) (map_of.get left other)) apart
      ∙ ap (λ m. map_of.get m other) taken ∙ map_of.get-remove keys_total before key other
      ∙ ap (λ b. cond b None (map_of.get before other)) apart

-- ---- with one card more

pub one_of_key : (me : Bytes) (key : ChatKey) (cards : List Shown) (x : ChatState) → x ≡ state_of me key cards → StandsFor me cards x
one_of_key me key cards x is = is ∙ ap (λ k. state_of me k cards) (sym (ap (λ (s : ChatState). s.key) is))

pub state_with : (me : Bytes) (key : ChatKey) (cards more : List Shown) (x y : ChatState) → x ≡ state_of me key cards → AreFew cards → y.key ≡ x.key
    → ((some : List Shown) → AreFew some → StandsFor me some x → StandsFor me (some ++ more) y) → y ≡ state_of me key (cards ++ more)
state_with me key cards more x y is few same added =
    added cards few (one_of_key me key cards x is)
    ∙ ap (λ k. state_of me k (cards ++ more)) (same ∙ ap (λ (s : ChatState). s.key) is)

-- a state that was there, or was begun
pub taken_out : (o : Option ChatState) (x y : ChatState) → o ≡ Some x → o ≡ Some y → x ≡ y
taken_out o x y h k = let same : Some x ≡ Some y = sym h ∙ k in cc

pub none_there : {P : Type 0} (o : Option ChatState) (x : ChatState) → o ≡ None → o ≡ Some x → P
none_there None x h k = cc
none_there (Some y) x h k = cc
