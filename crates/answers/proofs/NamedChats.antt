-- A text names at most one chat.
use Rattle.std.proofs.Common.{◌≡◌, Bool, true, false, ◌||◌, List, [], ◌∷◌, Option, Some, None, drop, find, option_map, cond, refl, sym, ap, ◌∙◌, arith, if◌then◌else◌}
use Rattle.std.proofs.lemmas.Bool.{false≢true}
use Rattle.std.specs.Cmp.Lexicographic.{bytes_decides}
use Rattle.std.specs.List.{AllByRecursion, list_any}
use Rattle.std.specs.Prelude.{◌≢◌, bytes_eq, get_or, ok_or}
use Rattle.kit.specs.Options.{◌>>=◌}
use Rattle.card_type.specs.declared.key.ChatKey.{ChatKey}
use Rattle.card_type.specs.declared.key.ChatKey.TheVariants.{SelfChat, Single, Group, Thread}
use Rattle.card_type.specs.Keys.{key_eq}
use Rattle.card_type.specs.KeyTexts.{key_text}
use Rattle.mailbox_model.specs.declared.page.ChatPage.{ChatPage}
use Rattle.mailbox_model.specs.Lists.{Bytes}
use Rattle.mailbox_model.specs.Mailbox.{Mailbox, IsMailbox}
use Rattle.mailbox_model.specs.Pages.{keys, page, page_of}
use Rattle.mailbox_model.proofs.ListLaws.{key_same, key_self}
use Rattle.answers.specs.declared.fault.AnswerFault.TheVariants as fault
use Rattle.answers.specs.declared.question.Question.TheVariants as question
use Rattle.answers.specs.Answers.{answer_of, named_key}
use Rattle.mailbox_model.specs.Answers.{OneChat, answer}
use Rattle.mailbox_model.specs.Printed.{chat_text}
use Rattle.answers.proofs.KeyLaws.{IsKey, are_keys}

-- the page of the chat whose key has this text
abbrev pub named_page : Mailbox → Bytes → Option ChatPage
named_page m text = named_key m text >>= page m

-- the second byte of its text tells the variant of a key
pub one_text : (k l : ChatKey) → key_text k ≡ key_text l → k ≡ l
one_text SelfChat SelfChat e = refl
one_text (Single a) (Single b) e = ap (λ t. Single (drop 7 t)) e
one_text (Group a) (Group b) e = ap (λ t. Group (drop 6 t)) e
one_text (Thread a) (Thread b) e = ap (λ t. Thread (drop 7 t)) e
one_text SelfChat (Single b) e = absurd (omega (arith, ap (λ t. get_or t 1 0) e))
one_text SelfChat (Group b) e = absurd (omega (arith, ap (λ t. get_or t 1 0) e))
one_text SelfChat (Thread b) e = absurd (omega (arith, ap (λ t. get_or t 1 0) e))
one_text (Single a) SelfChat e = absurd (omega (arith, ap (λ t. get_or t 1 0) e))
one_text (Single a) (Group b) e = absurd (omega (arith, ap (λ t. get_or t 1 0) e))
one_text (Single a) (Thread b) e = absurd (omega (arith, ap (λ t. get_or t 1 0) e))
one_text (Group a) SelfChat e = absurd (omega (arith, ap (λ t. get_or t 1 0) e))
one_text (Group a) (Single b) e = absurd (omega (arith, ap (λ t. get_or t 1 0) e))
one_text (Group a) (Thread b) e = absurd (omega (arith, ap (λ t. get_or t 1 0) e))
one_text (Thread a) SelfChat e = absurd (omega (arith, ap (λ t. get_or t 1 0) e))
one_text (Thread a) (Single b) e = absurd (omega (arith, ap (λ t. get_or t 1 0) e))
one_text (Thread a) (Group b) e = absurd (omega (arith, ap (λ t. get_or t 1 0) e))

-- the key is found where it is there
pub found : (key : ChatKey) (text : Bytes) → key_text key ≡ text → (ks : List ChatKey)
    → find (λ k. bytes_eq (key_text k) text) ks ≡ (if list_any (key_eq key) ks then Some key else None)
found key text e [] = refl
found key text e (k ∷ ks) = by (bytes_eq (key_text k) text) (key_eq key k) (λ h. key_same key k h) (λ h. one_text k key ((bytes_decides (key_text k) text).0 h ∙ sym e))
    (λ h. (bytes_decides (key_text k) text).1 (ap key_text (sym h) ∙ e)) (λ h. ap (key_eq key) h ∙ key_self key) (found key text e ks)
  where
    by : (t q : Bool) → (q ≡ true → key ≡ k) → (t ≡ true → k ≡ key) → (key ≡ k → t ≡ true) → (k ≡ key → q ≡ true)
        → find (λ k. bytes_eq (key_text k) text) ks ≡ (if list_any (key_eq key) ks then Some key else None)
        → cond t (Some k) (find (λ k. bytes_eq (key_text k) text) ks) ≡ (if q || list_any (key_eq key) ks then Some key else None)
    by true true a b c d rest = ap Some (b refl)
    by true false a b c d rest = absurd (false≢true (d (b refl)))
    by false true a b c d rest = absurd (false≢true (c (a refl)))
    by false false a b c d rest = rest

pub page_of_text : (m : Mailbox) (key : ChatKey) (text : Bytes) → key_text key ≡ text → named_page m text ≡ page m key
page_of_text m key text e = ap (λ o. o >>= page m) (found key text e (keys m)) ∙ by (list_any (key_eq key) (keys m)) refl
  where
    by : (b : Bool) → b ≡ list_any (key_eq key) (keys m) → ((if b then Some key else None) >>= page m) ≡ page m key
    by true e = refl
    by false e = ap (λ b. if b then Some (page_of m key) else None) e

none_named : (text : Bytes) (ks : List ChatKey) → AllByRecursion IsKey ks → ((k : ChatKey) → IsKey k → key_text k ≢ text)
    → find (λ k. bytes_eq (key_text k) text) ks ≡ None
none_named text [] a other = refl
none_named text (k ∷ ks) a other = by (bytes_eq (key_text k) text) (λ h. other k a.0 ((bytes_decides (key_text k) text).0 h)) (none_named text ks a.1 other)
  where
    by : (t : Bool) → (t ≡ true → ⊥) → find (λ k. bytes_eq (key_text k) text) ks ≡ None → cond t (Some k) (find (λ k. bytes_eq (key_text k) text) ks) ≡ None
    by true h rest = absurd (h refl)
    by false h rest = rest

pub no_page_of_text : (m : Mailbox) (text : Bytes) → IsMailbox m → ((k : ChatKey) → IsKey k → key_text k ≢ text) → named_page m text ≡ None
no_page_of_text m text k other = ap (λ o. o >>= page m) (none_named text (keys m) (are_keys m k) other)

-- it is what the command asks for
pub chat_answer : (m : Mailbox) (text : Bytes) → answer_of m (question.Chat text) ≡ ok_or (option_map chat_text (named_page m text)) fault.NoChat
chat_answer m text = by (named_key m text)
  where
    by : (o : Option ChatKey) → ok_or (o >>= λ key. answer m (OneChat key)) fault.NoChat ≡ ok_or (option_map chat_text (o >>= page m)) fault.NoChat
    by None = refl
    by (Some key) = refl
