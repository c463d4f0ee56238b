-- What is not true of any mail of a turn.
use Rattle.std.proofs.Common.{◌≡◌, sym, ◌∙◌, ℕ, Bool, true, false, ◌&&◌, List, [], ◌∷◌, ◌++◌}
use Rattle.std.specs.Prelude.{nat_eq}
use Rattle.std.specs.List.{list_any}
use Rattle.std.proofs.lemmas.Bool.{or_parts, or_left, or_right, eq-eqb, false≢true}
use Rattle.std.proofs.lemmas.List.Folds.{list_any-append}
use Rattle.mailbox_model.specs.declared.turn.Turn.{Turn}
use Rattle.mailbox_model.specs.Mailbox.{Mailbox}
use Rattle.mailbox_model.specs.Present.{Mail, mail_cmp, present}
use Rattle.mailbox_model.specs.Turns.{with_mail}
use Rattle.touched_chats.specs.Suspects.{turned_uids, turned}
use Rattle.touched_chats.proofs.Lists.{any_passing, not_inserted}

abbrev pub is_of : Turn → Mail → Bool
is_of turn t = list_any (nat_eq t.placed.uid) (turned_uids turn)

pub first_uid : (uid : ℕ) (uids : List ℕ) (t : Mail) → t.placed.uid ≡ uid → list_any (nat_eq t.placed.uid) (uid ∷ uids) ≡ true
first_uid uid uids t e = or_left (nat_eq t.placed.uid uid) (list_any (nat_eq t.placed.uid) uids) (eq-eqb t.placed.uid uid e)

pub second_uid : (first uid : ℕ) (t : Mail) → t.placed.uid ≡ uid → list_any (nat_eq t.placed.uid) (first ∷ uid ∷ []) ≡ true
second_uid first uid t e =
    or_right (nat_eq t.placed.uid first) (list_any (nat_eq t.placed.uid) (uid ∷ [])) (first_uid uid [] t e)

pub passing : (b c : Bool) → b ≡ true → (b && c) ≡ false → c ≡ false
passing true c e h = h
passing false c e h = absurd (false≢true e)

module _ (m n : Mailbox) (turn : Turn) (p : Mail → Bool) (h : list_any p (turned m n turn) ≡ false) where
  pub none_turned : (list_any (λ t. is_of turn t && p t) (present m) ≡ false) × (list_any (λ t. is_of turn t && p t) (present n) ≡ false)
  none_turned =
      or_parts (list_any (λ t. is_of turn t && p t) (present m)) (list_any (λ t. is_of turn t && p t) (present n))
      (sym (any_passing p (is_of turn) (present m ++ present n) ∙ list_any-append (λ t. is_of turn t && p t) (present m) (present n)) ∙ h)

  pub not_left : (t : Mail) (ts : List Mail) → is_of turn t ≡ true → present m ≡ with_mail t ts → p t ≡ false
  not_left t ts is e = passing (is_of turn t) (p t) is (not_inserted mail_cmp (λ t. is_of turn t && p t) t ts (present m) e none_turned.0)

  pub not_came : (t : Mail) (ts : List Mail) → is_of turn t ≡ true → present n ≡ with_mail t ts → p t ≡ false
  not_came t ts is e = passing (is_of turn t) (p t) is (not_inserted mail_cmp (λ t. is_of turn t && p t) t ts (present n) e none_turned.1)
