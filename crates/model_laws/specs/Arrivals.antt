-- Which changes bring a mail.
use Rattle.std.specs.Prelude.{List, [], ◌∷◌}
use Rattle.mailbox_model.specs.declared.change.Change.{Change}
use Rattle.mailbox_model.specs.declared.change.Change.TheVariants.{Arrive, ArriveFault, Expunge, Seen, At}

abbrev pub BringsNone : Change → Type 0
BringsNone (Arrive card) = ⊥
BringsNone (ArriveFault fault) = ⊥
BringsNone (Expunge uid) = Unit {0}
BringsNone (Seen uid) = Unit {0}
BringsNone (At moment) = Unit {0}

-- no arrival is among these
abbrev pub BringNone : List Change → Type 0
BringNone [] = Unit {0}
BringNone (change ∷ changes) = BringsNone change × BringNone changes
