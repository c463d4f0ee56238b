-- What holds of a draft that is not refused.
use Rattle.std.proofs.Common.{◌≡◌, ℕ, ◌<◌, ◌≤◌, ◌==◌, Bool, true, false, not, List, [], ◌∷◌, length, ◌++◌, ◌/◌, Option, Some, None, IfSome, Ok, pos, refl, ap, ◌∙◌, sym, arith}
use Rattle.std.specs.Prelude.{◌&&◌, ◌||◌, bytes_eq, nat_le, if◌then◌else◌}
use Rattle.std.specs.List.{cons_option, list_all, list_any}
use Rattle.std.proofs.lemmas.Bool.{and_from, and_parts, not-true}
use Rattle.std.proofs.lemmas.Bool.Decides.{nat_tests}
use Rattle.std.proofs.lemmas.Slice.Eq.{bytes_eq-Decides}
use Rattle.card_type.specs.Rules.{fits_weight}
use Rattle.flowed_text.specs.Flowed.{user_text}
use Rattle.jiff_core.specs.declared.civil.date.Date.{Date}
use Rattle.jiff_core.specs.Date.{epoch_day}
use Rattle.kit.specs.Addresses.{is_addr}
use Rattle.kit.specs.Moments.{last_moment}
use Rattle.chat_card.specs.Cards.{card_of}
use Rattle.chat_card.specs.Reactions.{one_line}
use Rattle.compose.specs.declared.draft.Draft.{Draft}
use Rattle.compose.specs.declared.fault.DraftFault.{DraftFault}
use Rattle.compose.specs.declared.fault.DraftFault.TheVariants as fault
use Rattle.compose.specs.Intended.{added, intended, reacts, removed}
use Rattle.compose.specs.Mails.{mail_of}
use Rattle.compose.specs.Refusals.{addresses, lacks_group, ends_in_space, has_bracket, is_fine_text, is_reaction_text, is_shown_text, lacks_target, refusal}
use Rattle.compose.proofs.CardBack.{Fine, Said, Shown, card_back, is_react}
use Rattle.compose.proofs.Envelope.{Open}
use Rattle.compose.proofs.PeopleBack.{is_open_addr}
use Rattle.compose.proofs.Values.{Keeps}

passed : (b : Bool) (why : DraftFault) (rest : Option DraftFault) → (if b then Some why else rest) ≡ None → (b ≡ false) × (rest ≡ None)
passed true why rest e = absurd cc
passed false why rest e = (refl, e)

holds : (b : Bool) → not b ≡ false → b ≡ true
holds true e = refl
holds false e = absurd cc

-- none of the causes of a refusal
pub record Accepted (d : Draft) : Type 0 where
  pub to : (length d.to == 0) ≡ false
  pub group : lacks_group d.act d.group ≡ false
  pub target : lacks_target d.act d.reply ≡ false
  pub brackets : list_any has_bracket (addresses d) ≡ false
  pub text : is_fine_text d.act d.text ≡ true
  pub weight : fits_weight (intended d) ≡ true

pub accepted : (d : Draft) → refusal d ≡ None → Accepted d
accepted d e =
    let a = passed (length d.to == 0) fault.NoTo _ e in
    let b = passed (lacks_group d.act d.group) fault.NoGroup _ a.1 in
    let c = passed (lacks_target d.act d.reply) fault.NoTarget _ b.1 in
    let f = passed (list_any has_bracket (addresses d)) fault.BadAddr _ c.1 in
    let g = passed (not (is_fine_text d.act d.text)) fault.BadText _ f.1 in
    let h = passed (not (fits_weight (intended d))) fault.CardTooLong None g.1 in
    record { to = a.0; group = b.0; target = c.0; brackets = f.0; text = holds (is_fine_text d.act d.text) g.0; weight = holds (fits_weight (intended d)) h.0 }

some_of : (n : ℕ) → (n == 0) ≡ false → 0 < n
some_of n h = grind (arith, nat_tests)

pub most : (n : ℕ) → nat_le n 32768 ≡ true → n ≤ 32768
most n h = grind (arith, nat_tests)

pub to_some : (d : Draft) → Accepted d → 0 < length d.to
to_some d a = some_of (length d.to) a.to

least : (n : ℕ) → nat_le n 255 ≡ true → n ≤ 255
least n h = grind (arith, nat_tests)

is_shown : (d : Draft) → Accepted d → reacts d.act ≡ false → Shown d
is_shown d a speaks =
    let short = nat_le (length d.text) 32768 in
    let end = not (ends_in_space d.text) in
    let own = bytes_eq (user_text d.text) d.text in
    let shown : (short && end && own) ≡ true = ap (λ r. if r then is_reaction_text d.text else is_shown_text d.text) (sym speaks) ∙ a.text in
    let first = and_parts (short && end) own shown in
    let both = and_parts short end first.0 in
    record {
      own = (bytes_eq-Decides (user_text d.text) d.text).0 first.1;
      end = not-true (ends_in_space d.text) both.1;
      short = most (length d.text) both.0;
    }

is_said : (d : Draft) → Accepted d → reacts d.act ≡ true → Said d
is_said d a r =
    let short = nat_le (length d.text) 255 in
    let line = bytes_eq (one_line d.text) d.text in
    let said : (short && line) ≡ true = ap (λ r. if r then is_reaction_text d.text else is_shown_text d.text) (sym r) ∙ a.text in
    let both = and_parts short line said in
    record {
      reply = ap (λ act. lacks_target act d.reply) (sym (is_react d.act r)) ∙ a.target;
      line = (bytes_eq-Decides (one_line d.text) d.text).0 both.1;
      short = least (length d.text) both.0;
    }

pub is_fine : (d : Draft) → Accepted d → Fine d
is_fine d a = record { shown = is_shown d a; said = is_said d a }

-- ---- no address holds a bracket

neither : (a b : Bool) → (a || b) ≡ false → (a ≡ false) × (b ≡ false)
neither true b e = absurd cc
neither false b e = (refl, e)

open_addr : (a : List ℕ) → is_addr a ≡ true → has_bracket a ≡ false → is_open_addr a ≡ true
open_addr a h none = and_from (is_addr a) (not (has_bracket a)) h (ap not none)

open_all : (xs ys : List (List ℕ)) → list_all is_addr xs ≡ true → list_any has_bracket (xs ++ ys) ≡ false → (list_all is_open_addr xs ≡ true) × (list_any has_bracket ys ≡ false)
open_all [] ys all none = (refl, none)
open_all (x ∷ xs) ys all none =
    let parts = and_parts (is_addr x) (list_all is_addr xs) all in
    let each = neither (has_bracket x) (list_any has_bracket (xs ++ ys)) none in
    let more = open_all xs ys parts.1 each.1 in
    (and_from (is_open_addr x) (list_all is_open_addr xs) (open_addr x parts.0 each.0) more.0, more.1)

open_maybe : (a : Option (List ℕ)) (more : List (List ℕ)) → IfSome a (λ x. is_addr x ≡ true) → list_any has_bracket (cons_option a more) ≡ false
    → IfSome a (λ x. is_open_addr x ≡ true) × (list_any has_bracket more ≡ false)
open_maybe None more h none = (tt, none)
open_maybe (Some x) more h none =
    let each = neither (has_bracket x) (list_any has_bracket more) none in
    (open_addr x h each.0, each.1)

pub is_open : (d : Draft) → Accepted d → Keeps d → Open d
is_open d a k =
    let from = neither (has_bracket d.from) _ a.brackets in
    let to = open_all d.to (cons_option (added d.act) (cons_option (removed d.act) [])) k.to from.1 in
    let one = open_maybe (added d.act) (cons_option (removed d.act) []) k.added to.1 in
    let two = open_maybe (removed d.act) [] k.removed one.1 in
    record { from = open_addr d.from k.from from.0; to = to.0; added = one.0; removed = two.0 }

-- the whole: what is accepted reads as the intended card
pub accepted_back : (uid : ℕ) (d : Draft) (day : Date) → epoch_day day ≡ pos (d.date / 86400) → d.date ≤ last_moment → Keeps d → refusal d ≡ None
    → card_of uid (mail_of d) ≡ Ok (intended d)
accepted_back uid d day e le k none =
    let a = accepted d none in
    card_back uid d day e le (to_some d a) k (is_open d a k) (is_fine d a) a.weight
