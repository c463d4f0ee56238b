-- The keys of the touched chats are the suspect ones that are there, each once.
use Rattle.std.proofs.Common.{◌≡◌, refl, sym, ap, ◌∙◌, Bool, true, false, ◌||◌, ◌&&◌, is_some, List, ◌++◌}
use Rattle.std.specs.List.{list_any, AllByRecursion, IsDistinct}
use Rattle.std.proofs.lemmas.Bool.{and_parts, and_from}
use Rattle.std.proofs.lemmas.List.Folds.{list_any-append}
use Rattle.std.proofs.lemmas.Map.Views.{any-filter_same}
use Rattle.lists.specs.Distinct.{firsts}
use Rattle.lists.proofs.DistinctLaws.{IsDistinct-filter, IsDistinct-firsts}
use Rattle.lists.proofs.Inserts.{find-firsts, list_any-found}
use Rattle.card_type.specs.declared.key.ChatKey.{ChatKey}
use Rattle.card_type.specs.Keys.{key_eq}
use Rattle.mailbox_model.specs.declared.change.Change.{Change}
use Rattle.mailbox_model.specs.declared.turn.Turn.{Turn}
use Rattle.mailbox_model.specs.Mailbox.{Mailbox, after, full, IsMailbox, IsValidChange}
use Rattle.mailbox_model.specs.Pages.{keys}
use Rattle.mailbox_model.specs.Turns.{turn, IsTurn}
use Rattle.mailbox_model.proofs.ListLaws.{key_same, key_self}
use Rattle.mailbox_model.proofs.RuleLaws.{change_keeps}
use Rattle.mailbox_model.proofs.TurnLaws.{turn_law}
use Rattle.touched_chats.specs.Costs.{touched_keys}
use Rattle.touched_chats.specs.Suspects.{is_suspect}
use Rattle.touched_chats.specs.Touched.{has_chat, HoldsTouched, IsTouched}
use Rattle.touched_chats.proofs.Among.{Among, all_among, found_any}
use Rattle.touched_chats.proofs.Covered.{touched_suspect}
use Rattle.touched_chats.proofs.Staying.{same_me}
use Rattle.touched_chats.proofs.Suspected.{suspect_touched}

any_first : (key : ChatKey) (ks : List ChatKey) → list_any (key_eq key) (firsts key_eq ks) ≡ list_any (key_eq key) ks
any_first key ks =
    list_any-found (key_eq key) (firsts key_eq ks)
    ∙ ap is_some (find-firsts key_eq (key_eq key) (λ x y e. ap (key_eq key) (key_same x y e)) ks)
    ∙ sym (list_any-found (key_eq key) ks)

or_turn : (b c : Bool) → (b || c) ≡ (c || b)
or_turn true true = refl
or_turn true false = refl
or_turn false true = refl
or_turn false false = refl

pub touched_key : (m n : Mailbox) (turn : Turn) (key : ChatKey)
    → list_any (key_eq key) (touched_keys m n turn) ≡ (is_suspect m n turn key && (has_chat m key || has_chat n key))
touched_key m n turn key =
    any-filter_same (key_eq key) (is_suspect m n turn) (is_suspect m n turn key) alike (firsts key_eq (keys n ++ keys m))
    ∙ ap (λ b. is_suspect m n turn key && b) there
  where
    alike : (other : ChatKey) → key_eq key other ≡ true → is_suspect m n turn other ≡ is_suspect m n turn key
    alike other e = ap (is_suspect m n turn) (sym (key_same key other e))

    there : list_any (key_eq key) (firsts key_eq (keys n ++ keys m)) ≡ (has_chat m key || has_chat n key)
    there =
        any_first key (keys n ++ keys m) ∙ list_any-append (key_eq key) (keys n) (keys m)
        ∙ or_turn (has_chat n key) (has_chat m key)

pub touched_once : (m n : Mailbox) (turn : Turn) → IsDistinct key_eq (touched_keys m n turn)
touched_once m n turn =
    IsDistinct-filter key_eq (is_suspect m n turn) (firsts key_eq (keys n ++ keys m)) (IsDistinct-firsts key_eq (keys n ++ keys m))

module _ (m n : Mailbox) (turn : Turn) (me : m.me ≡ n.me) (is : IsTurn m n turn) where
  pub touched_held : HoldsTouched m n (touched_keys m n turn)
  touched_held key touched =
      touched_key m n turn key
      ∙ and_from (is_suspect m n turn key) (has_chat m key || has_chat n key) (touched_suspect m n turn key me is touched) touched.there

  pub each_touched : IsMailbox m → IsMailbox n → AllByRecursion (IsTouched m n) (touched_keys m n turn)
  each_touched k l = all_among (IsTouched m n) (touched_keys m n turn) one
    where
      one : (key : ChatKey) → Among key (touched_keys m n turn) → IsTouched m n key
      one key there =
          let found = found_any (key_eq key) key (touched_keys m n turn) there (key_self key) in
          let both = and_parts (is_suspect m n turn key) (has_chat m key || has_chat n key) (sym (touched_key m n turn key) ∙ found) in
          suspect_touched m n turn key me k l is both.0 both.1

-- ---- of a change

pub change_touches : (m : Mailbox) (change : Change) → IsMailbox m → IsValidChange change → full m change ≡ false
    → let n = after m change in let held = touched_keys m n (turn m change) in AllByRecursion (IsTouched m n) held × HoldsTouched m n held
change_touches m change k valid room =
    let n = after m change in
    let is = turn_law m change k.uids in (
      each_touched m n (turn m change) (same_me m change) is k (change_keeps m change k valid room),
      touched_held m n (turn m change) (same_me m change) is,
    )
