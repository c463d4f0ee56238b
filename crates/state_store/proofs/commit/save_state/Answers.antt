use Rattle.std.proofs.Common.{◌≡◌, Ok, refl, ◌∙◌, ap}
use Rattle.state_image.specs.Images.{image, image_of}
use Rattle.outside.specs.Places.{Places}
use Rattle.outside.proofs.Known.{known_as}
use Rattle.mailbox_model.specs.Lists.{Bytes}
use Rattle.state_store.specs.Stands.{stands}
use Rattle.state_store.specs.States.{State}
use Rattle.state_store.proofs.commit.save_state.Goals as goal

pub returns-in_err-checkpoint-clause-any_moment : goal.returns-in_err-checkpoint-clause-any_moment
returns-in_err-checkpoint-clause-any_moment g c me places is =
    let new : State = record { mailbox = c.args.mailbox.now.mailbox; position = c.args.position } in
    c.checkpoint.ensures.any_moment places is me new (c.deref.ensures.value ∙ c.in_ok-image.ensures.image) (ap image_of c.deref.ensures.value ∙ c.in_ok-image.ensures.reads_back) refl

pub returns-clause-any_moment : goal.returns-clause-any_moment
returns-clause-any_moment g c me places is =
    let new : State = record { mailbox = c.args.mailbox.now.mailbox; position = c.args.position } in
    c.checkpoint.ensures.any_moment places is me new (c.deref.ensures.value ∙ c.in_ok-image.ensures.image) (ap image_of c.deref.ensures.value ∙ c.in_ok-image.ensures.reads_back) refl

pub returns-clause-lasting : goal.returns-clause-lasting
returns-clause-lasting g c =
    let seen = g.H.Shelf.seen in
    let new : State = record { mailbox = c.args.mailbox.now.mailbox; position = c.args.position } in
    let text = c.deref.ensures.value ∙ c.in_ok-image.ensures.image in
    let read = ap image_of c.deref.ensures.value ∙ c.in_ok-image.ensures.reads_back in
    known_as (seen c.args.shelf.now) (seen c.checkpoint.new.shelf)
    (λ (x y : Places). (me : Bytes) (to : State) → c.deref.result.now ≡ image to.mailbox to.position → image_of c.deref.result.now ≡ Ok (to.mailbox, to.position) → to.position.count ≡ c.args.position.count → stands me y ≡ Ok to) (λ (x y : Places). (me : Bytes) → stands me y ≡ Ok new)
    (λ x y is h me. h me new text read refl) c.in_ok-checkpoint.ensures.lasting
