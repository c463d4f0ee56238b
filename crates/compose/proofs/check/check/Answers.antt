use Rattle.std.proofs.Common.{rules, ◌≡◌, None}
use Rattle.card_type.specs.Rules.{is_valid, keeps_bounds}
use Rattle.compose.specs.Intended.{intended}
use Rattle.compose.specs.Refusals.{refusal}
use Rattle.compose.proofs.BoxBack.{mails_back}
use Rattle.compose.proofs.Kept.{kept}
use Rattle.compose.proofs.Premises.{accepted_back}
use Rattle.compose.proofs.Values.{Keeps}
use Rattle.compose.proofs.check.check.Goals as goal
use Rattle.compose.proofs.check.check.Goals.{In-None}

none : (c : In-None) → refusal c.args.draft.now ≡ None
none c = search rules

keeps : (c : In-None) → Keeps c.args.draft.now
keeps c =
    let types : is_valid (intended c.args.draft.now) ≡ keeps_bounds (intended c.args.draft.now) = search rules in
    kept c.args.draft.now (none c) c.requires types c.old_name_is_text.ensures

pub returns-in-None-clause-reads : goal.returns-in-None-clause-reads
returns-in-None-clause-reads c =
    let day = c.is_in_a_day.ensures in
    λ uid. accepted_back uid c.args.draft.now day.0 day.1 c.requires (keeps c) (none c)

pub returns-in-None-clause-one : goal.returns-in-None-clause-one
returns-in-None-clause-one c = let day = c.is_in_a_day.ensures in mails_back c.args.draft.now day.0 day.1 (keeps c)
