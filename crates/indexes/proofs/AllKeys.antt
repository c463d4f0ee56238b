-- The keys of the states of all chats are those of all chats, in their order.
use Rattle.std.proofs.Common.{◌≡◌, refl, sym, ap, ◌∙◌, Bool, true, false, ◌||◌, cond, Some, None, List, [], ◌∷◌, length, map, arith}
use Rattle.std.specs.Prelude.{is_some, if◌then◌else◌}
use Rattle.std.specs.FinMap as map_of
use Rattle.std.specs.FinMap.Entries.{below_all}
use Rattle.std.specs.List.{list_any, AllByRecursion}
use Rattle.std.specs.List.Sorted.{IsStrictlySortedBy}
use Rattle.std.specs.Ordering.{eq_by_cmp, is_lt}
use Rattle.std.specs.declared.cmp.Ordering.{Ordering}
use Rattle.std.specs.declared.cmp.Ordering.TheVariants.{Less, Equal, Greater}
use Rattle.std.proofs.lemmas.Bool.{and_parts, false≢true, lt-ltb}
use Rattle.card_type.specs.declared.key.ChatKey.{ChatKey}
use Rattle.card_type.specs.Keys.{key_cmp, key_eq}
use Rattle.card_type.specs.Kinds.{has_some}
use Rattle.chat_view.specs.declared.state.ChatState.{ChatState}
use Rattle.chat_view.specs.Standing.{state_of}
use Rattle.mailbox_model.specs.Mailbox.{Mailbox}
use Rattle.mailbox_model.specs.Present.{Mail, present}
use Rattle.mailbox_model.specs.Chats.{chat_mails}
use Rattle.mailbox_model.specs.Pages.{keys}
use Rattle.mailbox_model.specs.States.{chat_cards, shown_as}
use Rattle.mailbox_model.proofs.ListLaws.{keys_are}
use Rattle.indexes.specs.Kept.{AreAllChats, AreStates}
use Rattle.indexes.proofs.OrderedDates.{entries_rise, keys_tie}

abbrev Entries : Type 0
Entries = List (ChatKey × ChatState)

is_Less : (o : Ordering) → is_lt o ≡ true → o ≡ Less
is_Less Less e = refl
is_Less Equal e = absurd (false≢true e)
is_Less Greater e = absurd (false≢true e)

all_above : (key : ChatKey) (es : Entries) → below_all key_cmp key es ≡ true → AllByRecursion (λ k. key_cmp key k ≡ Less) (map (λ e. e.0) es)
all_above key [] h = tt
all_above key (e ∷ es) h =
    let parts = and_parts (is_lt (key_cmp key e.0)) (below_all key_cmp key es) h in
    (is_Less (key_cmp key e.0) parts.0, all_above key es parts.1)

sorted_keys : (es : Entries) → map_of.is_sorted key_cmp es ≡ true → IsStrictlySortedBy key_cmp (map (λ e. e.0) es)
unfolding IsStrictlySortedBy
sorted_keys [] h = tt
sorted_keys (e ∷ es) h =
    let parts = and_parts (below_all key_cmp e.0 es) (map_of.is_sorted key_cmp es) h in
    (all_above e.0 es parts.0, sorted_keys es parts.1)

has_key : (key : ChatKey) (es : Entries) → list_any (key_eq key) (map (λ e. e.0) es) ≡ is_some (map_of.find key_cmp key es)
has_key key [] = refl
has_key key (e ∷ es) =
    (λ i. sym (keys_tie key e.0) i || has_key key es i)
    ∙ elim (eq_by_cmp key_cmp key e.0) as (λ b. (b || is_some (map_of.find key_cmp key es)) ≡ is_some (cond b (Some e.1) (map_of.find key_cmp key es))) [ true ↦ refl | false ↦ refl ]

-- a chat has a state where it is there
pub has_state : (m : Mailbox) (states : map_of.FinMap key_cmp ChatState) → AreStates m (present m) states → (key : ChatKey)
    → is_some (map_of.get states key) ≡ list_any (key_eq key) (keys m)
has_state m states are key =
    ap is_some (are key) ∙ some_if (has_some (chat_cards m key)) (state_of m.me key (chat_cards m key)) ∙ mapped (chat_mails m key) ∙ sym (keys_are m key)
  where
    some_if : (b : Bool) (s : ChatState) → is_some (if b then Some s else None) ≡ b
    some_if true s = refl
    some_if false s = refl

    mapped : (ts : List Mail) → has_some (map (shown_as m) ts) ≡ has_some ts
    mapped [] = refl
    mapped (t ∷ ts) = lt-ltb 0 (length (map (shown_as m) (t ∷ ts))) (omega arith) ∙ sym (lt-ltb 0 (length (t ∷ ts)) (omega arith))

pub all_keys : (m : Mailbox) (states : map_of.FinMap key_cmp ChatState) → AreStates m (present m) states → AreAllChats m (map (λ e. e.0) (map_of.entries states))
all_keys m states are =
    record {
      order = sorted_keys (map_of.entries states) (entries_rise key_cmp states);
      all = λ key. has_key key (map_of.entries states) ∙ ap is_some (sym (map_of.get-entries states key)) ∙ has_state m states are key;
    }
