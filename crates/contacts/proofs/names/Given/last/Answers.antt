use Rattle.std.proofs.Common.{◌∙◌, sym, ap}
use Rattle.std.specs.Prelude.{option_map}
use Rattle.contacts.specs.Kept.{last_name}
use Rattle.contacts.proofs.Lasts.{last_is}
use Rattle.contacts.proofs.names.Given.last.Goals as goal

pub returns : goal.returns
returns c =
    sym (ap (option_map (λ given. given.1)) (last_is c.self.inside.by_spot.entries ∙ c.in_ok-name.ensures.last)) ∙ ap last_name c.self.view_is
