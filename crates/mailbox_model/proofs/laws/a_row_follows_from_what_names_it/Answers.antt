use Rattle.card_type.specs.declared.effect.Effect.TheVariants as effects
use Rattle.mailbox_model.specs.Rows.{acting, acting_by}
use Rattle.mailbox_model.proofs.ActLaws.{naming_enough, still_unexpired}
use Rattle.mailbox_model.proofs.ReactionLaws.{reactions_more, reactions_say, reactors_apart}
use Rattle.mailbox_model.proofs.UpdateLaws.{serials, parts_apart}
use Rattle.mailbox_model.proofs.laws.a_row_follows_from_what_names_it.Goals as goal

pub returns-clause-named : goal.returns-clause-named
returns-clause-named c = naming_enough

pub returns-clause-serials : goal.returns-clause-serials
returns-clause-serials c = λ m t. serials (acting_by effects.Update (acting m t.placed.card))

pub returns-clause-parts : goal.returns-clause-parts
returns-clause-parts c = λ m t k. parts_apart m k.uids t.placed.card

pub returns-clause-reactors : goal.returns-clause-reactors
returns-clause-reactors c = λ m t. reactors_apart (acting_by effects.Reaction (acting m t.placed.card))

pub returns-clause-reactions : goal.returns-clause-reactions
returns-clause-reactions c = λ m t. reactions_say (acting_by effects.Reaction (acting m t.placed.card))

pub returns-clause-last_reaction : goal.returns-clause-last_reaction
returns-clause-last_reaction c = reactions_more

pub returns-clause-time : goal.returns-clause-time
returns-clause-time c = still_unexpired
