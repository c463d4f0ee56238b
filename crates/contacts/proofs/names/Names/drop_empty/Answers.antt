use Rattle.std.proofs.Common.{◌∙◌, sym, ap, not, None}
use Rattle.contacts.specs.Kept.{names_at}
use Rattle.contacts.proofs.ByAddr.{names_of, unchanged}
use Rattle.contacts.proofs.Lasts.{no_names, none_copied}
use Rattle.contacts.proofs.names.Names.drop_empty.Goals as goal
use Rattle.contacts.proofs.names.Names.drop_empty.Goals.{in-Some-1, in-None-1}

pub returns-then-is_none : goal.returns-then-is_none
returns-then-is_none c other =
    let addr = c.args.addr.now in
    let last = sym c.last.ensures ∙ none_copied c.last.result (c.is_none.ensures ∙ ap not c.if-is_none.true) in
    let none = sym (ap (λ names. names_at names addr) c.self.view_is ∙ no_names _ last) in
    let same = unchanged c.self.inside.by_addr.entries c.remove-empty.new.self.entries addr None c.remove-empty.ensures.updates.0 names_of none other in
    elim c.match-empty.branch [
      | in-Some-1 w ↦ rw w.self-is (same ∙ ap (λ names. names_at names other) c.self.view_is)
      | in-None-1 w ↦ rw w.self-is (same ∙ ap (λ names. names_at names other) c.self.view_is)
    ]
