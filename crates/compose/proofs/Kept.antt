-- What the types of a draft's values keep, of the rules that its card keeps.
use Rattle.std.proofs.Common.{◌≡◌, ℕ, ◌<◌, ◌≤◌, ◌^◌, Bool, true, false, not, List, [], ◌∷◌, length, Option, Some, None, IfSome, refl, sym, ap, ◌∙◌, arith}
use Rattle.std.specs.Prelude.{bytes_eq, filter, if◌then◌else◌, nat_lt}
use Rattle.std.specs.List.{list_all}
use Rattle.std.specs.Str.{IsUtf8, is_utf8}
use Rattle.std.proofs.lemmas.Bool.{and_from, and_parts}
use Rattle.std.proofs.lemmas.Bool.Decides.{nat_tests}
use Rattle.std.proofs.lemmas.Slice.Eq.{bytes_eq-Decides}
use Rattle.std.proofs.lemmas.Str.{IsUtf8-from_is_utf8}
use Rattle.kit.specs.Moments.{last_moment}
use Rattle.lists.specs.Distinct.{each_once}
use Rattle.lists.proofs.DistinctLaws.{are_distinct_once}
use Rattle.card_type.specs.Rules.{is_envelope, is_requests, is_short, is_shown, is_valid, keeps_bounds, where_some}
use Rattle.chat_card.proofs.CardLemmas.{bounds-kept}
use Rattle.compose.specs.declared.draft.Draft.{Draft}
use Rattle.compose.specs.Intended.{intended, old_name, one_or_none, reacts}
use Rattle.compose.specs.Refusals.{is_reaction_text, is_shown_text, refusal}
use Rattle.compose.proofs.Premises.{Accepted, accepted, most}
use Rattle.compose.proofs.Values.{Keeps}

-- ---- the bounds

room : (reaction : Bool) (text : List ℕ) → (if reaction then is_reaction_text text else is_shown_text text) ≡ true → length (if reaction then [] else text) ≤ 32768
room true text fine = omega arith
room false text fine = most (length text) (and_parts _ _ (and_parts _ _ fine).0).0

short : (reaction : Bool) (text : List ℕ) → (if reaction then is_reaction_text text else is_shown_text text) ≡ true → where_some is_short (if reaction then Some text else None) ≡ true
short true text fine = (and_parts _ _ fine).0
short false text fine = refl

valid : (d : Draft) → Accepted d → d.date ≤ last_moment → is_valid (intended d) ≡ keeps_bounds (intended d) → is_valid (intended d) ≡ true
valid d a le types =
    types ∙ bounds-kept (intended d) le (room (reacts d.act) d.text a.text) (short (reacts d.act) d.text a.text) refl (are_distinct_once d.to) refl ∙ a.weight

-- ---- the values

where_some_if : (rule : List ℕ → Bool) (o : Option (List ℕ)) → where_some rule o ≡ true → IfSome o (λ x. rule x ≡ true)
where_some_if rule None h = tt
where_some_if rule (Some x) h = h

one_if : (rule : List ℕ → Bool) (o : Option (List ℕ)) → list_all rule (one_or_none o) ≡ true → IfSome o (λ x. rule x ≡ true)
one_if rule None h = tt
one_if rule (Some x) h = (and_parts (rule x) true h).0

text_utf8 : (reaction : Bool) (text : List ℕ) → is_utf8 (if reaction then [] else text) ≡ true → where_some is_utf8 (if reaction then Some text else None) ≡ true → IsUtf8 text
text_utf8 true text shown said = IsUtf8-from_is_utf8 text said
text_utf8 false text shown said = IsUtf8-from_is_utf8 text shown

-- what holds of a value and of those that are not alike it holds of all
all_alike : (rule : List ℕ → Bool) (x : List ℕ) (ys : List (List ℕ)) → rule x ≡ true → list_all rule (filter (λ y. not (bytes_eq x y)) ys) ≡ true → list_all rule ys ≡ true
all_alike rule x [] here rest = refl
all_alike rule x (y ∷ ys) here rest = by (bytes_eq x y) refl rest (all_alike rule x ys here)
  where
    others : List (List ℕ)
    others = filter (λ y. not (bytes_eq x y)) ys

    by : (alike : Bool) → bytes_eq x y ≡ alike → list_all rule (if not alike then y ∷ others else others) ≡ true → (list_all rule others ≡ true → list_all rule ys ≡ true)
        → list_all rule (y ∷ ys) ≡ true
    by true same rest more = and_from (rule y) (list_all rule ys) (ap rule (sym ((bytes_eq-Decides x y).0 same)) ∙ here) (more rest)
    by false other rest more = let both = and_parts (rule y) (list_all rule others) rest in and_from (rule y) (list_all rule ys) both.0 (more both.1)

all_once : (rule : List ℕ → Bool) (xs : List (List ℕ)) → list_all rule (each_once xs) ≡ true → list_all rule xs ≡ true
all_once rule [] all = refl
all_once rule (x ∷ xs) all =
    let both = and_parts (rule x) _ all in
    and_from (rule x) (list_all rule xs) both.0 (all_once rule xs (all_alike rule x (each_once xs) both.0 both.1))

below : (n : ℕ) → nat_lt n (2 ^ 32) ≡ true → n < 2 ^ 32
below n h = grind (arith, nat_tests)

kept_by : (d : Draft) → is_valid (intended d) ≡ true → IfSome (old_name d.act) IsUtf8 → Keeps d
kept_by d is old =
    let card = intended d in
    let all = and_parts _ (is_shown card) is in
    let most = and_parts _ (is_requests card) all.0 in
    let first = and_parts (keeps_bounds card) (is_envelope card) most.0 in
    let references = and_parts _ _ first.1 in
    let replies = and_parts _ _ references.0 in
    let cc = and_parts _ _ replies.0 in
    let to = and_parts _ _ cc.0 in
    let name = and_parts _ _ to.0 in
    let from = and_parts _ _ name.0 in
    let timer = and_parts _ _ most.1 in
    let deletes = and_parts _ _ timer.0 in
    let edit = and_parts _ _ deletes.0 in
    let removed = and_parts _ _ edit.0 in
    let added = and_parts _ _ removed.0 in
    let group = and_parts _ _ added.0 in
    let reaction = and_parts _ _ all.1 in
    let updates = and_parts _ _ reaction.0 in
    let receipt = and_parts _ _ updates.0 in
    let attachments = and_parts _ _ receipt.0 in
    let texts = and_parts _ _ attachments.0 in
    record {
      id = from.0;
      from = from.1;
      from_name = IsUtf8-from_is_utf8 d.from_name name.1;
      to = all_once _ d.to to.1;
      subject = IsUtf8-from_is_utf8 d.subject texts.0;
      reply = one_if _ d.reply replies.1;
      references = references.1;
      group = where_some_if _ d.group group.0;
      group_name = IsUtf8-from_is_utf8 _ group.1;
      timer = below d.timer timer.1;
      text = text_utf8 (reacts d.act) d.text texts.1 reaction.1;
      added = where_some_if _ _ added.1;
      removed = where_some_if _ _ removed.1;
      old_name = old;
      edited = where_some_if _ _ edit.1;
      deleted = deletes.1;
      receipt_for = where_some_if _ _ receipt.1;
    }

pub kept : (d : Draft) → refusal d ≡ None → d.date ≤ last_moment → is_valid (intended d) ≡ keeps_bounds (intended d) → IfSome (old_name d.act) IsUtf8 → Keeps d
kept d none le types old = kept_by d (valid d (accepted d none) le types) old
