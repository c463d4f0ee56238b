-- The states of all chats, where the state of one is another.
use Rattle.std.proofs.Common.{◌≡◌, refl, sym, ap, ◌∙◌, subst, Bool, true, false, ◌||◌, ◌&&◌, cond, Option, Some, None, Result, Ok, Err, List, [], ◌∷◌, ◌⊎◌, inl, inr}
use Rattle.std.specs.Prelude.{if◌then◌else◌, OnOk, OnErr}
use Rattle.std.specs.FinMap as map_of
use Rattle.std.specs.Str.{bytes_eq}
use Rattle.std.specs.declared.cmp.Ordering.{Ordering}
use Rattle.std.specs.declared.cmp.Ordering.TheVariants.{Less, Equal, Greater}
use Rattle.std.specs.List.{list_any}
use Rattle.std.specs.Ordering.{eq_by_cmp, is_eq}
use Rattle.std.proofs.lemmas.Bool.{cases_Bool, false≢true}
use Rattle.std.proofs.lemmas.Cmp.{tied_itself}
use Rattle.card_type.specs.declared.key.ChatKey.{ChatKey}
use Rattle.card_type.specs.Keys.{key_cmp, key_eq}
use Rattle.card_type.proofs.Orders.{keys_exact, keys_total}
use Rattle.lists.proofs.Inserts.{agree}
use Rattle.mailbox_model.specs.Lists.{Bytes}
use Rattle.mailbox_model.specs.States.{Shown}
use Rattle.mailbox_model.proofs.ListLaws.{key_same, key_self, key_turn}
use Rattle.chat_view.specs.declared.state.ChatState.{ChatState}
use Rattle.chat_states.specs.Families.{Family, with_card}
use Rattle.chat_states.specs.States.{AreStatesOf, Has, has_key}
use Rattle.chat_states.proofs.OneCard.{with_one}

-- ---- keys

is_tie : (o : Ordering) → is_eq o ≡ true → o ≡ Equal
is_tie Less e = absurd (false≢true e)
is_tie Equal e = refl
is_tie Greater e = absurd (false≢true e)

-- keys tie where they are alike
pub keys_tie : (a b : ChatKey) → eq_by_cmp key_cmp a b ≡ key_eq a b
keys_tie a b =
    agree (eq_by_cmp key_cmp a b) (key_eq a b) (λ e. subst (λ c. key_eq a c ≡ true) (keys_exact a b (is_tie (key_cmp a b) e)) (key_self a))
    (λ e. subst (λ c. eq_by_cmp key_cmp a c ≡ true) (key_same a b e) (ap is_eq (tied_itself keys_total a)))

-- so a set of keys has one where the list of them has
pub is_there : (keys : List ChatKey) (key : ChatKey) → list_any (eq_by_cmp key_cmp key) keys ≡ has_key keys key
is_there [] key = refl
is_there (k ∷ keys) key = λ i. keys_tie key k i || is_there keys key i

-- and one more of them
pub noted : (keys : List ChatKey) (key other : ChatKey)
    → cond (eq_by_cmp key_cmp key other) true (list_any (eq_by_cmp key_cmp other) keys) ≡ (key_eq key other || has_key keys other)
noted keys key other = (λ i. cond (keys_tie key other i) true (is_there keys other i)) ∙ by (key_eq key other)
  where
    by : (b : Bool) → cond b true (has_key keys other) ≡ (b || has_key keys other)
    by true = refl
    by false = refl

-- ---- a state that is taken out, and perhaps put back

module _ {X : Type 0} (before left : map_of.FinMap key_cmp X) (key : ChatKey) (taken : left ≡ map_of.remove before key) where
  pub gone : map_of.get left key ≡ None
  gone =
      ap (λ m. map_of.get m key) taken ∙ map_of.get-remove keys_total before key key
      ∙ ap (λ b. cond b None (map_of.get before key)) (keys_tie key key ∙ key_self key)

  pub left_other : (other : ChatKey) → key_eq key other ≡ false → map_of.get left other ≡ map_of.get before other
  left_other other h =
      ap (λ m. map_of.get m other) taken ∙ map_of.get-remove keys_total before key other
      ∙ ap (λ b. cond b None (map_of.get before other)) (keys_tie other key ∙ key_turn other key ∙ h)

module _ {X : Type 0} (left after : map_of.FinMap key_cmp X) (key : ChatKey) (x : X) (put : after ≡ map_of.insert left key x) where
  pub at_key : map_of.get after key ≡ Some x
  at_key =
      ap (λ m. map_of.get m key) put ∙ map_of.get-insert keys_total left key x key
      ∙ ap (λ b. cond b (Some x) (map_of.get left key)) (keys_tie key key ∙ key_self key)

  pub at_other : (other : ChatKey) → key_eq key other ≡ false → map_of.get after other ≡ map_of.get left other
  at_other other h =
      ap (λ m. map_of.get m other) put ∙ map_of.get-insert keys_total left key x other
      ∙ ap (λ b. cond b (Some x) (map_of.get left other)) (keys_tie other key ∙ key_turn other key ∙ h)

-- a value that is put in place of another one, where there is one
pub kept_other : {X Y E : Type 0} (r : Result Y E) (before after : map_of.FinMap key_cmp X) (key : ChatKey) (x : X)
    → OnOk r (after ≡ map_of.insert before key x) → OnErr r (after ≡ before)
    → (other : ChatKey) → key_eq key other ≡ false → map_of.get after other ≡ map_of.get before other
kept_other (Ok y) before after key x ok err other h = at_other before after key x ok other h
kept_other (Err e) before after key x ok err other h = ap (λ m. map_of.get m other) err

-- ---- the states of all

module _ (me : Bytes) (u v : ChatKey → Bool) (old new : map_of.FinMap key_cmp ChatState) (key : ChatKey)
    (others : (other : ChatKey) → key_eq key other ≡ false → map_of.get new other ≡ map_of.get old other)
    (settled : (other : ChatKey) → key_eq key other ≡ false → v other ≡ u other) where
  -- each of the other chats has what it had
  pub one_state : (family anew : Family) → ((other : ChatKey) → key_eq key other ≡ false → anew other ≡ family other)
      → AreStatesOf me u family old → Has me key (v key) (anew key) (map_of.get new key) → AreStatesOf me v anew new
  one_state family anew same are has k = by (cases_Bool (key_eq key k))
    where
      by : (key_eq key k ≡ true) ⊎ (key_eq key k ≡ false) → Has me k (v k) (anew k) (map_of.get new k)
      by (inl this) = subst (λ q. Has me q (v q) (anew q) (map_of.get new q)) (key_same key k this) has
      by (inr other) = subst (λ b. Has me k b (anew k) (map_of.get new k)) (sym (settled k other))
          (subst (λ by_id. Has me k (u k) by_id (map_of.get new k)) (sym (same k other)) (subst (Has me k (u k) (family k)) (sym (others k other)) (are k)))

  -- where one card of the chat is another
  pub one_chat : (family : Family) (id : Bytes) (card : Option Shown) → AreStatesOf me u family old
      → Has me key (v key) (with_one id card (family key)) (map_of.get new key) → AreStatesOf me v (with_card key id card family) new
  one_chat family id card are has =
      one_state family (with_card key id card family) (λ other h j i. if h j && bytes_eq id i then card else family other i) are
      (subst (λ by_id. Has me key (v key) by_id (map_of.get new key)) here has)
    where
      here : with_one id card (family key) ≡ with_card key id card family key
      here = λ j i. if sym (key_self key) j && bytes_eq id i then card else family key i

-- the other chats keep theirs and another state is put in, where one card of the chat is another
pub replaced : (me : Bytes) (u v : ChatKey → Bool) (old left new : map_of.FinMap key_cmp ChatState) (key : ChatKey) (t : ChatState)
    → ((other : ChatKey) → key_eq key other ≡ false → map_of.get left other ≡ map_of.get old other) → new ≡ map_of.insert left key t
    → ((other : ChatKey) → key_eq key other ≡ false → v other ≡ u other)
    → (family : Family) (id : Bytes) (card : Option Shown) → (Has me key (u key) (family key) (map_of.get old key) → Has me key (v key) (with_one id card (family key)) (Some t))
    → AreStatesOf me u family old → AreStatesOf me v (with_card key id card family) new
replaced me u v old left new key t kept put settled family id card step are =
    one_chat me u v old new key (λ other h. at_other left new key t put other h ∙ kept other h) settled family id card are
    (subst (Has me key (v key) (with_one id card (family key))) (sym (at_key left new key t put)) (step (are key)))
