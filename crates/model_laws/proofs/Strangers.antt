-- What the card of a stranger does to a mail.
use Rattle.std.proofs.Common.{◌≡◌, refl, sym, ap, ◌∙◌, ℕ, Bool, true, false, not, cond, Option, Some, None, is_some, List, [], ◌∷◌, map}
use Rattle.std.specs.Prelude.{if◌then◌else◌, ◌&&◌, ◌||◌, find, filter, filter_map, option_map, IfSome}
use Rattle.std.specs.List.{cons_option}
use Rattle.std.specs.Option.{option_to_list}
use Rattle.std.specs.Ordering.{is_lt}
use Rattle.std.specs.Str.{bytes_eq}
use Rattle.std.specs.Cmp.Lexicographic.{bytes_decides}
use Rattle.std.proofs.lemmas.Bool.{both_ways, and_parts, or_parts}
use Rattle.card_type.specs.declared.card.Card.{Card}
use Rattle.card_type.specs.declared.kind.Kind.{Kind}
use Rattle.card_type.specs.declared.kind.Kind.TheVariants.{Receipt, Delete, Edit, Update, Reaction, Content}
use Rattle.card_type.specs.declared.effect.Effect.{Effect}
use Rattle.card_type.specs.declared.effect.Effect.TheVariants as effects
use Rattle.card_type.specs.Effects.{effect_of, effect_by, is_among, names, names_by, has_person}
use Rattle.card_type.specs.Kinds.{kind_of, is_content, has_some}
use Rattle.mailbox_model.specs.declared.change.Change.TheVariants.{Arrive}
use Rattle.mailbox_model.specs.declared.row.Row.{Row}
use Rattle.mailbox_model.specs.Lists.{Bytes, last_of}
use Rattle.mailbox_model.specs.Mailbox.{Mailbox, after}
use Rattle.mailbox_model.specs.Present.{Placed, Mail, mail_cmp, mails, has_id, same_id, present}
use Rattle.mailbox_model.specs.Turns.{arriving, with_mail}
use Rattle.mailbox_model.specs.Rows.{Act, act_on, acting_by, is_effect, is_expired, text_card, reactions_by, updates_by, shown_by, row_by, acting, row}
use Rattle.lists.specs.Distinct.{firsts}
use Rattle.lists.proofs.Inserts.{none_from_found}
use Rattle.mailbox_model.proofs.MailLaws.{order, is_alike, mails-arrive}
use Rattle.model_laws.specs.Strangers.{IsReceiptOfOwn, but_readers, but_added}
use Rattle.model_laws.proofs.InOrder.{firsts_new, found_present, mails_in_order}

-- ---- a card with a new id comes in

pub comes_in : (m : Mailbox) (card : Card) → find (has_id card.id) (present m) ≡ None
    → present (after m (Arrive card)) ≡ with_mail (arriving m card) (present m)
comes_in m card e =
    let y = arriving m card in
    let none = none_from_found (same_id y) (mails m) (sym (found_present y (mails m)) ∙ e) in
    ap (firsts same_id) (mails-arrive m card) ∙ firsts_new mail_cmp order same_id is_alike y (mails m) none (mails_in_order m)

-- ---- what acts, with one more card

module _ (f : Placed → Option Act) (y : Mail) where
  abbrev acts : List Mail → List Act
  acts ts = filter_map f (map (λ t. t.placed) ts)

  acts_alike : f y.placed ≡ None → (ts : List Mail) → acts (with_mail y ts) ≡ acts ts
  acts_alike none [] = rw none refl
  acts_alike none (t ∷ ts) =
      elim (is_lt (mail_cmp y t)) as (λ b. acts (if b then y ∷ t ∷ ts else t ∷ with_mail y ts) ≡ acts (t ∷ ts)) [
        | true ↦ ap (λ o. cons_option o (acts (t ∷ ts))) none
        | false ↦ ap (cons_option (f t.placed)) (acts_alike none ts)
      ]

  module _ (effect : Effect) where
    first_skipped : (o : Option Act) → IfSome o (λ a. is_effect effect a.effect ≡ false) → (first : List Act)
        → acting_by effect (cons_option o first) ≡ acting_by effect first
    first_skipped None h first = refl
    first_skipped (Some a) h first = rw h refl

    first_kept : (o : Option Act) (first second : List Act) → acting_by effect first ≡ acting_by effect second
        → acting_by effect (cons_option o first) ≡ acting_by effect (cons_option o second)
    first_kept None first second h = h
    first_kept (Some a) first second h =
        elim (is_effect effect a.effect) as (λ b. map (λ (act : Act). act.by) (cond b (a ∷ filter (λ c. is_effect effect c.effect) first) (filter (λ c. is_effect effect c.effect) first)) ≡ map (λ (act : Act). act.by) (cond b (a ∷ filter (λ c. is_effect effect c.effect) second) (filter (λ c. is_effect effect c.effect) second))) [
          | true ↦ ap (λ es. a.by ∷ es) h
          | false ↦ h
        ]

    acting_alike : IfSome (f y.placed) (λ a. is_effect effect a.effect ≡ false) → (ts : List Mail)
        → acting_by effect (acts (with_mail y ts)) ≡ acting_by effect (acts ts)
    acting_alike h [] = first_skipped (f y.placed) h []
    acting_alike h (t ∷ ts) =
        elim (is_lt (mail_cmp y t)) as (λ b. acting_by effect (acts (if b then y ∷ t ∷ ts else t ∷ with_mail y ts)) ≡ acting_by effect (acts (t ∷ ts))) [
          | true ↦ first_skipped (f y.placed) h (acts (t ∷ ts))
          | false ↦ first_kept (f t.placed) (acts (with_mail y ts)) (acts ts) (acting_alike h ts)
        ]

-- ---- what a card does, by its sender

-- none but the sender edits or deletes
abbrev KeepsText : Effect → Type 0
KeepsText effect = (is_effect effects.Edit effect ≡ false) × (is_effect effects.Delete effect ≡ false)

keeps_text : (e t : Card) (me : Bytes) → bytes_eq e.from t.from ≡ false → IfSome (effect_of e t me) KeepsText
keeps_text e t me h = named (is_content (kind_of t) && is_among (names e) t.id)
  where
    some : (b : Bool) (effect : Effect) → KeepsText effect → IfSome (if b then Some effect else None) KeepsText
    some true effect k = k
    some false effect k = tt

    by : (kind : Kind) → IfSome (effect_by kind e t me) KeepsText
    by Receipt = some _ effects.Read (refl, refl)
    by Delete = rw h tt
    by Edit = rw h tt
    by Update = some (t.app && has_person t e.from) effects.Update (refl, refl)
    by Reaction = some (has_person t e.from) effects.Reaction (refl, refl)
    by Content = tt

    named : (b : Bool) → IfSome (if b then effect_by (kind_of e) e t me else None) KeepsText
    named true = by (kind_of e)
    named false = tt

-- ---- rows

-- whether a row is shown, and then all but what f leaves out
pub shown_alike : (f : Row → Row) (b c : Bool) (r s : Row) → b ≡ c → f r ≡ f s
    → option_map f (if b then None else Some r) ≡ option_map f (if c then None else Some s)
shown_alike f b c r s same h = by b ∙ ap (λ d. option_map f (if d then None else Some s)) same
  where
    by : (d : Bool) → option_map f (if d then None else Some r) ≡ option_map f (if d then None else Some s)
    by true = refl
    by false = ap Some h

module _ (me : Bytes) (now : ℕ) (t : Mail) (first second : List Act)
    (edits : acting_by effects.Edit first ≡ acting_by effects.Edit second) (deletes : acting_by effects.Delete first ≡ acting_by effects.Delete second) where
  abbrev hidden : List Placed → Bool
  hidden es = has_some es || is_expired me now t

  but_all : option_map but_added (row_by me now t first) ≡ option_map but_added (row_by me now t second)
  but_all =
      shown_alike but_added (hidden (acting_by effects.Delete first)) (hidden (acting_by effects.Delete second)) (shown_by me t first) (shown_by me t second) (ap hidden deletes)
      (λ i. record (shown_by me t first) {
        readers = [];
        reactions = [];
        updates = [];
        text = (text_card (last_of (edits i)) t.placed.card).text;
        cut = (text_card (last_of (edits i)) t.placed.card).cut;
        edited = is_some (last_of (edits i));
      })

  but_read : acting_by effects.Reaction first ≡ acting_by effects.Reaction second → acting_by effects.Update first ≡ acting_by effects.Update second
      → option_map but_readers (row_by me now t first) ≡ option_map but_readers (row_by me now t second)
  but_read reactions updates =
      shown_alike but_readers (hidden (acting_by effects.Delete first)) (hidden (acting_by effects.Delete second)) (shown_by me t first) (shown_by me t second) (ap hidden deletes)
      (λ i. record (shown_by me t first) {
        readers = [];
        reactions = reactions_by (reactions i);
        updates = updates_by (updates i);
        text = (text_card (last_of (edits i)) t.placed.card).text;
        cut = (text_card (last_of (edits i)) t.placed.card).cut;
        edited = is_some (last_of (edits i));
      })

-- ---- the row of a mail where a card with a new id comes

module _ (m : Mailbox) (e : Card) (t : Mail) (new : find (has_id e.id) (present m) ≡ None) where
  abbrev y : Mail
  y = arriving m e

  abbrev does : Placed → Option Act
  does = act_on m.me t.placed.card

  acting_is : (f : List Act → List Placed) → f (acts does y (with_mail y (present m))) ≡ f (acting m t.placed.card)
      → f (acting (after m (Arrive e)) t.placed.card) ≡ f (acting m t.placed.card)
  acting_is f same = ap (λ ps. f (acts does y ps)) (comes_in m e new) ∙ same

  abbrev made : Effect → Act
  made effect = record { effect = effect; by = y.placed }

  -- what holds of its effect holds of its act
  of_act : (effect : Effect) (P : Effect → Type 0) → ((x : Effect) → P x → is_effect effect x ≡ false)
      → IfSome (effect_of e t.placed.card m.me) P → IfSome (does y.placed) (λ a. is_effect effect a.effect ≡ false)
  of_act effect P other h = by (effect_of e t.placed.card m.me) h
    where
      by : (o : Option Effect) → IfSome o P → IfSome (option_map made o) (λ a. is_effect effect a.effect ≡ false)
      by None h = tt
      by (Some x) h = other x h

  alike : (effect : Effect) (P : Effect → Type 0) → ((x : Effect) → P x → is_effect effect x ≡ false)
      → IfSome (effect_of e t.placed.card m.me) P
      → acting_by effect (acting (after m (Arrive e)) t.placed.card) ≡ acting_by effect (acting m t.placed.card)
  alike effect P other h = acting_is (acting_by effect) (acting_alike does y effect (of_act effect P other h) (present m))

  pub edits_row : bytes_eq e.from t.placed.card.from ≡ false
      → option_map but_added (row (after m (Arrive e)) t) ≡ option_map but_added (row m t)
  edits_row other =
      let h = keeps_text e t.placed.card m.me other in
      but_all m.me m.now t (acting (after m (Arrive e)) t.placed.card) (acting m t.placed.card) (alike effects.Edit KeepsText (λ x p. p.0) h) (alike effects.Delete KeepsText (λ x p. p.1) h)

  pub sent_row : IfSome (effect_of e t.placed.card m.me) (IsReceiptOfOwn e t.placed.card m.me)
      → option_map but_readers (row (after m (Arrive e)) t) ≡ option_map but_readers (row m t)
  sent_row h =
      let P = IsReceiptOfOwn e t.placed.card m.me in
      but_read m.me m.now t (acting (after m (Arrive e)) t.placed.card) (acting m t.placed.card) (alike effects.Edit P (λ x p. ap (is_effect effects.Edit) p.effect_is) h) (alike effects.Delete P (λ x p. ap (is_effect effects.Delete) p.effect_is) h) (alike effects.Reaction P (λ x p. ap (is_effect effects.Reaction) p.effect_is) h) (alike effects.Update P (λ x p. ap (is_effect effects.Update) p.effect_is) h)

  pub received_row : IfSome (effect_of e t.placed.card m.me) (IsReceiptOfOwn e t.placed.card m.me) → bytes_eq t.placed.card.from m.me ≡ false
      → row (after m (Arrive e)) t ≡ row m t
  received_row h other =
      ap (row_by m.me m.now t) (ap (λ ps. acts does y ps) (comes_in m e new) ∙ acts_alike does y (none (effect_of e t.placed.card m.me) h) (present m))
    where
      none : (o : Option Effect) → IfSome o (IsReceiptOfOwn e t.placed.card m.me) → option_map made o ≡ None
      none None h = refl
      none (Some x) h = absurd (both_ways (bytes_eq t.placed.card.from m.me) other ((bytes_decides t.placed.card.from m.me).1 h.own))

-- ---- what a stranger does

pub stranger : (e t : Card) (me : Bytes) → has_person t e.from ≡ false → IfSome (effect_of e t me) (IsReceiptOfOwn e t me)
stranger e t me h = named (is_content (kind_of t)) (is_among (names e) t.id) refl
  where
    first : bytes_eq e.from t.from ≡ false
    first = (or_parts (bytes_eq e.from t.from) (is_among t.to e.from) (or_parts (bytes_eq e.from t.from || is_among t.to e.from) (is_among t.cc e.from) h).0).0

    own : (b : Bool) → (b ≡ true → IsReceiptOfOwn e t me effects.Read) → IfSome (if b then Some effects.Read else None) (IsReceiptOfOwn e t me)
    own true k = k refl
    own false k = tt

    by : (kind : Kind) → kind_of e ≡ kind → is_among (names_by kind e) t.id ≡ true → IfSome (effect_by kind e t me) (IsReceiptOfOwn e t me)
    by Receipt kind among =
        own (bytes_eq t.from me && not (bytes_eq e.from me))
        (λ b. record {
          effect_is = refl;
          own = (bytes_decides t.from me).0 (and_parts (bytes_eq t.from me) (not (bytes_eq e.from me)) b).0;
          receipt = named_by e.receipt among;
        })
      where
        named_by : (o : Option Bytes) → is_among (option_to_list o) t.id ≡ true → o ≡ Some t.id
        named_by None k = absurd (both_ways false refl k)
        named_by (Some id) k = ap Some (sym ((bytes_decides t.id id).0 (or_false (bytes_eq t.id id) k)))
          where
            or_false : (b : Bool) → (b || false) ≡ true → b ≡ true
            or_false true k = refl
            or_false false k = k
    by Delete kind among = rw first tt
    by Edit kind among = rw first tt
    by Update kind among = rw h (none t.app)
      where
        none : (b : Bool) → IfSome (if b && false then Some effects.Update else None) (IsReceiptOfOwn e t me)
        none true = tt
        none false = tt
    by Reaction kind among = rw h tt
    by Content kind among = tt

    named : (b c : Bool) → is_among (names e) t.id ≡ c → IfSome (if b && c then effect_by (kind_of e) e t me else None) (IsReceiptOfOwn e t me)
    named true true among = by (kind_of e) refl among
    named true false among = tt
    named false c among = tt
