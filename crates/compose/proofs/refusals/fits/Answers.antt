use Rattle.std.proofs.Common.{◌≡◌, subst}
use Rattle.card_type.specs.Rules.{is_valid, keeps_bounds}
use Rattle.compose.proofs.refusals.fits.Goals as goal

pub returns-clause-types : goal.returns-clause-types
returns-clause-types c = subst (λ card. is_valid card ≡ keeps_bounds card) c.in_ok-card.ensures c.fits_weight.ensures.types
