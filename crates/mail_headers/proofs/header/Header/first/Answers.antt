use Rattle.std.proofs.Common.{◌∙◌, ap}
use Rattle.kit.specs.Letters.{same_name}
use Rattle.mail_headers.specs.Headers.{first_of}
use Rattle.mail_headers.proofs.Finds.{found_exactly}
use Rattle.mail_headers.proofs.header.Header.first.Goals as goal

pub returns-clause-found : goal.returns-clause-found
returns-clause-found c =
    found_exactly (λ field. same_name field.name c.args.name.now) (λ field. field.body) c.args.self.now.fields c.first.result
    (c.first.ensures ∙ ap (λ head. first_of head c.args.name.now) c.self.view_is)
