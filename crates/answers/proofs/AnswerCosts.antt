-- What the page of a chat costs, by the text of its key.
use Rattle.std.proofs.Common.{◌≡◌, refl, sym, ap, ◌∙◌, Bool, true, false, List, [], ◌∷◌, Some, None, subst, length, ℕ, ◌+◌, ◌*◌, ◌≤◌, arith}
use Rattle.std.proofs.lemmas.Bool.{both_ways, lt-ltb}
use Rattle.std.specs.Prelude.{if◌then◌else◌}
use Rattle.std.specs.List.{list_any}
use Rattle.std.specs.Option.{option_map_or}
use Rattle.card_type.specs.declared.key.ChatKey.{ChatKey}
use Rattle.card_type.specs.Keys.{key_eq}
use Rattle.card_type.specs.Kinds.{has_some}
use Rattle.card_type.specs.KeyTexts.{key_text}
use Rattle.mailbox_model.specs.Chats.{chat_mails}
use Rattle.mailbox_model.specs.Lists.{Bytes}
use Rattle.mailbox_model.specs.Mailbox.{Mailbox}
use Rattle.mailbox_model.specs.Pages.{keys}
use Rattle.mailbox_model.specs.Present.{Mail}
use Rattle.mailbox_model.proofs.ListLaws.{keys_are}
use Rattle.indexes.specs.Costs.{page_cost, pairs}
use Rattle.answers.specs.Answers.{named_key}
use Rattle.answers.specs.Costs.{answer_cost}
use Rattle.answers.specs.declared.question.Question.TheVariants as question
use Rattle.answers.proofs.NamedChats.{found}

-- a key that is not in the list has no mails, and its page would cost nothing
none_costs : (m : Mailbox) (key : ChatKey) → list_any (key_eq key) (keys m) ≡ false → page_cost m key ≡ 0
none_costs m key out = ap (λ ts. 2 * (length ts + pairs m ts)) (none (chat_mails m key) (sym (keys_are m key) ∙ out))
  where
    none : (ts : List Mail) → has_some ts ≡ false → ts ≡ []
    none [] e = refl
    none (t ∷ ts) e = absurd (both_ways (has_some (t ∷ ts)) e (lt-ltb 0 (length (t ∷ ts)) (omega arith)))

named_cost : (m : Mailbox) (key : ChatKey) (text : Bytes) → key_text key ≡ text → page_cost m key ≡ option_map_or (page_cost m) (named_key m text) 0
named_cost m key text is = by (list_any (key_eq key) (keys m)) refl ∙ sym (ap (λ o. option_map_or (page_cost m) o 0) (found key text is (keys m)))
  where
    by : (b : Bool) → list_any (key_eq key) (keys m) ≡ b → page_cost m key ≡ option_map_or (page_cost m) (if list_any (key_eq key) (keys m) then Some key else None) 0
    by true e = ap (λ b. option_map_or (page_cost m) (if b then Some key else None) 0) (sym e)
    by false e = none_costs m key e ∙ ap (λ b. option_map_or (page_cost m) (if b then Some key else None) 0) (sym e)

pub within_cost : (m : Mailbox) (key : ChatKey) (text : Bytes) (old new : ℕ) → key_text key ≡ text → new ≤ old + page_cost m key
    → new ≤ old + answer_cost m (question.Chat text)
within_cost m key text old new is within = subst (λ cost. new ≤ old + cost) (named_cost m key text is) within
