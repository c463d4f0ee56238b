-- How many contents there are, and how many updates on any of them.
use Rattle.std.proofs.Common.{◌≡◌, refl, sym, ap, ◌∙◌, ℕ, ◌+◌, ◌≤◌, Bool, not, Option, Some, None, Result, Ok, Err, List, [], ◌∷◌, ◌++◌, length, map, arith, length-append}
use Rattle.std.specs.Prelude.{is_some, filter_map, filter, sum_by, flat_map}
use Rattle.std.specs.List.{concat, cons_option, enumerate_from}
use Rattle.std.proofs.lemmas.List.{length-map}
use Rattle.std.proofs.lemmas.List.Filters.{sum_by-filter_both}
use Rattle.std.proofs.lemmas.List.FromFn.{length-enumerate_from}
use Rattle.std.proofs.lemmas.List.Sums.{sum_by-cons}
use Rattle.std.proofs.lemmas.List.Sorted.{sum_by-IsPermutation}
use Rattle.lists.specs.Distinct.{firsts}
use Rattle.card_type.specs.declared.card.Card.{Card}
use Rattle.card_type.specs.declared.card.Payload.{Payload}
use Rattle.card_type.specs.declared.card.Payload.TheVariants.{Absent, Json, Hidden}
use Rattle.card_type.specs.declared.card.Update.{Update}
use Rattle.card_type.specs.declared.effect.Effect.TheVariants as effects
use Rattle.card_type.specs.Kinds.{kind_of, is_content}
use Rattle.card_type.specs.Records.{weight, envelope, requests, b8, b32, block, flag, opt, list, app_code, attachment, payload, update, reaction}
use Rattle.mailbox_model.specs.declared.change.Fault.{Fault}
use Rattle.mailbox_model.specs.Mailbox.{Mailbox, Entry, weight_read, max_entries, max_total_weight, IsMailbox}
use Rattle.mailbox_model.specs.Present.{Placed, Mail, mail_by, mail_of, mails, same_id, present, present_cards, contents}
use Rattle.mailbox_model.specs.Rows.{acting, acting_by, brought_by, updates_by}
use Rattle.mailbox_model.proofs.ActLaws.{sum_by-acting}
use Rattle.mailbox_model.proofs.PresentLaws.{mails_all}

-- ---- parts of a list count no more than all of it

module _ {X : Type 0} (f : X → ℕ) where
  sum_by-filter : (p : X → Bool) (xs : List X) → sum_by f (filter p xs) ≤ sum_by f xs
  sum_by-filter p xs = omega (arith, sum_by-filter_both p (λ x. not (p x)) (λ x. refl) f xs)

  sum_by-firsts : (same : X → X → Bool) (xs : List X) → sum_by f (firsts same xs) ≤ sum_by f xs
  sum_by-firsts same [] = omega arith
  sum_by-firsts same (x ∷ xs) =
      let others = filter (λ y. not (same x y)) (firsts same xs) in
      omega (arith, sum_by-cons f x xs, sum_by-cons f x others, sum_by-filter (λ y. not (same x y)) (firsts same xs), sum_by-firsts same xs)

pub sum_by-map : {X Y : Type 0} (f : Y → ℕ) (g : X → Y) (xs : List X) → sum_by f (map g xs) ≡ sum_by (λ x. f (g x)) xs
sum_by-map f g [] = refl
sum_by-map f g (x ∷ xs) =
    sum_by-cons f (g x) (map g xs) ∙ ap (λ n. f (g x) + n) (sum_by-map f g xs) ∙ sym (sum_by-cons (λ x. f (g x)) x xs)

-- what is counted of the mails is counted of their entries
sum_by-read : (f : Mail → ℕ) (g : Entry → ℕ) → ((e : Entry) → sum_by f (cons_option (mail_of e) []) ≤ g e)
    → (entries : List Entry) → sum_by f (filter_map mail_of entries) ≤ sum_by g entries
sum_by-read f g each [] = omega arith
sum_by-read f g each (e ∷ es) = by (mail_of e) (each e) (sum_by-read f g each es)
  where
    by : (o : Option Mail) → sum_by f (cons_option o []) ≤ g e → sum_by f (filter_map mail_of es) ≤ sum_by g es
        → sum_by f (cons_option o (filter_map mail_of es)) ≤ sum_by g (e ∷ es)
    by None here rest = omega (arith, here, rest, sum_by-cons g e es)
    by (Some t) here rest =
        omega (arith, here, rest, sum_by-cons g e es, sum_by-cons f t [], sum_by-cons f t (filter_map mail_of es))

pub sum_by-present : (f : Mail → ℕ) (g : Entry → ℕ) → ((e : Entry) → sum_by f (cons_option (mail_of e) []) ≤ g e)
    → (m : Mailbox) → sum_by f (present m) ≤ sum_by g m.entries
sum_by-present f g each m =
    omega (arith, sum_by-firsts f same_id (mails m), sum_by-IsPermutation f (filter_map mail_of m.entries) (mails m) (mails_all m), sum_by-read f g each m.entries)

-- ---- the contents

ones : {X : Type 0} (xs : List X) → sum_by (λ x. 1) xs ≡ length xs
ones [] = refl
ones (x ∷ xs) = omega (arith, sum_by-cons (λ y. 1) x xs, ones xs)

one_each : (e : Entry) → sum_by (λ (t : Mail). 1) (cons_option (mail_of e) []) ≤ 1
one_each e = by (mail_of e)
  where
    by : (o : Option Mail) → sum_by (λ (t : Mail). 1) (cons_option o []) ≤ 1
    by None = omega arith
    by (Some t) = omega (arith, ones (t ∷ []))

pub few_contents : (m : Mailbox) → IsMailbox m → length (contents m) ≤ max_entries
few_contents m k =
    omega (arith, ones (contents m), sum_by-filter (λ (t : Mail). 1) (λ t. is_content (kind_of t.placed.card)) (present m), sum_by-present (λ t. 1) (λ e. 1) one_each m, ones m.entries, k.count_fits)

-- ---- each update weighs something

some_payload : (p : Payload) → 1 ≤ length (payload p)
some_payload Absent = omega arith
some_payload (Json text) = omega (arith, length-append (1 ∷ []) (block text))
some_payload Hidden = omega arith

some_updates : (us : List Update) → length us ≤ length (flat_map update us)
some_updates [] = omega arith
some_updates (u ∷ us) =
    let begun = payload u.payload ++ opt block u.info in
    let most = begun ++ opt block u.document in
    let first : length (update u) ≡ length most + length (opt block u.summary) = length-append most (opt block u.summary) in
    let whole : length (flat_map update (u ∷ us)) ≡ length (update u) + length (flat_map update us) = length-append (update u) (flat_map update us) in
    omega (arith, first, whole, length-append begun (opt block u.document), length-append (payload u.payload) (opt block u.info), some_payload u.payload, some_updates us)

concat-push : (xs : List (List ℕ)) (x : List ℕ) → length (concat (xs ++ x ∷ [])) ≡ length (concat xs) + length x
concat-push [] x = length-append x [] ∙ omega arith
concat-push (y ∷ xs) x = omega (arith, length-append y (concat (xs ++ x ∷ [])), length-append y (concat xs), concat-push xs x)

updates_weigh : (c : Card) → length c.updates ≤ weight c
updates_weigh c =
    let updates : List (List ℕ) = list update c.updates ∷ [] in
    let whole : weight c ≡ length (concat (envelope c ++ requests c ++ before ++ updates)) + length (reaction c.reaction) = concat-push (envelope c ++ requests c ++ before ++ updates) (reaction c.reaction) in
    let front : length (concat (envelope c ++ requests c ++ before ++ updates)) ≡ length (concat (envelope c ++ requests c ++ before)) + length (list update c.updates) = concat-push (envelope c ++ requests c ++ before) (list update c.updates) in
    let last : length (list update c.updates) ≡ length (b32 (length c.updates)) + length (flat_map update c.updates) = length-append (b32 (length c.updates)) (flat_map update c.updates) in
    omega (arith, whole, front, last, some_updates c.updates)
  where
    before : List (List ℕ)
    before =
        block c.subject ∷ block c.text ∷ flag c.cut ∷ list attachment c.attachments ∷ opt block c.receipt ∷ b8 (app_code c.app (is_some c.reaction)) ∷ []

-- ---- the updates on a card

length-brought : (e : Placed) → length (brought_by e) ≡ length e.card.updates
length-brought e = length-map (enumerate_from 0 e.card.updates) _ ∙ length-enumerate_from 0 e.card.updates

length-all : (es : List Placed) → length (flat_map brought_by es) ≡ sum_by (λ e. length e.card.updates) es
length-all [] = refl
length-all (e ∷ es) =
    omega (arith, length-append (brought_by e) (flat_map brought_by es), length-brought e, length-all es, sum_by-cons (λ (x : Placed). length x.card.updates) e es)

pub length-updates_by : (es : List Placed) → length (updates_by es) ≡ sum_by (λ e. length e.card.updates) es
length-updates_by es =
    length-map (enumerate_from 1 (flat_map brought_by es)) _
    ∙ length-enumerate_from 1 (flat_map brought_by es)
    ∙ length-all es

weighs_each : (e : Entry) → sum_by (λ (t : Mail). length t.placed.card.updates) (cons_option (mail_of e) []) ≤ weight_read e.read
weighs_each e = by e.read
  where
    by : (read : Result Card Fault) → sum_by (λ (t : Mail). length t.placed.card.updates) (cons_option (mail_by e read) []) ≤ weight_read read
    by (Ok card) = omega (arith, updates_weigh card)
    by (Err fault) = omega arith

-- of all present cards
pub few_brought : (m : Mailbox) → IsMailbox m → sum_by (λ p. length p.card.updates) (present_cards m) ≤ max_total_weight
few_brought m k =
    omega (
      arith,
      sum_by-map (λ (p : Placed). length p.card.updates) (λ (t : Mail). t.placed) (present m),
      sum_by-present (λ t. length t.placed.card.updates) (λ e. weight_read e.read) weighs_each m,
      k.weight_fits,
    )

pub few_updates : (m : Mailbox) → IsMailbox m → (t : Card)
    → length (updates_by (acting_by effects.Update (acting m t))) ≤ max_total_weight
few_updates m k t =
    omega (
      arith,
      length-updates_by (acting_by effects.Update (acting m t)),
      sum_by-acting m.me t effects.Update (λ e. length e.card.updates) (present_cards m),
      few_brought m k,
    )
