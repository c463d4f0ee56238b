use Rattle.std.proofs.Common.{◌≡◌, ◌≢◌, refl, ℕ, ◌==◌, true, false, Some, Result, Ok, Err, arith}
use Rattle.std.proofs.lemmas.Bool.Decides.{nat_tests}
use Rattle.outside.specs.declared.shelf.Place.{Place}
use Rattle.mailbox_model.specs.Mailbox.{Mailbox}
use Rattle.state_image.specs.declared.position.Position.{Position}
use Rattle.state_image.specs.declared.fault.ImageFault.{ImageFault}
use Rattle.state_image.specs.Images.{image_of}
use Rattle.checkpoint.specs.Kept.{at_place, numbered}
use Rattle.checkpoint.proofs.opening.numbered.Goals as goal

-- an image with another number is damaged where its slot says the number
other_number : (place : Place) (number : ℕ) (kept : Mailbox × Position) (read : Result (Mailbox × Position) ImageFault)
    → read ≡ Ok kept → kept.1.count ≢ number → at_place place (numbered number read) ≡ Err (place, 1)
other_number place number kept read is other =
    let unlike : (kept.1.count == number) ≡ false = grind (arith, nat_tests, other) in
    rw (is, unlike) refl

-- and one with its number is kept
its_number : (place : Place) (number : ℕ) (kept : Mailbox × Position) (read : Result (Mailbox × Position) ImageFault)
    → read ≡ Ok kept → kept.1.count ≡ number → at_place place (numbered number read) ≡ Ok (Some kept)
its_number place number kept read is same =
    let alike : (kept.1.count == number) ≡ true = grind (arith, nat_tests, same) in
    rw (is, alike) refl

pub returns-in-Ok-clause-gives : goal.returns-in-Ok-clause-gives
returns-in-Ok-clause-gives c =
    its_number c.args.place c.args.number (c.in-Ok.mailbox.mailbox, c.in-Ok.position) (image_of c.args.image.now) c.in-Ok.ensures.gives c.if-position-number.true

pub returns-in-Ok-2-clause-gives : goal.returns-in-Ok-2-clause-gives
returns-in-Ok-2-clause-gives c =
    other_number c.args.place c.args.number (c.in-Ok.mailbox.mailbox, c.in-Ok.position) (image_of c.args.image.now) c.in-Ok.ensures.gives c.if-position-number.false
