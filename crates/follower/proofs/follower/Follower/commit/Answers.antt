use Rattle.std.proofs.Common.{◌≡◌, Ok, subst, sym}
use Rattle.outside.specs.Moments.{KnownThen}
use Rattle.state_store.specs.Stands.{stands}
use Rattle.state_store.specs.Stored.{IsStored}
use Rattle.follower.specs.Following.{Following}
use Rattle.follower.proofs.follower.Follower.commit.Goals as goal

pub commit-requires-clause-stored : goal.commit-requires-clause-stored
commit-requires-clause-stored g c places is =
    subst (λ (f : Following). IsStored f.keeper.store (g.H.Shelf.may_leave c.args.shelf.now) places) (sym c.self.view_is) (c.requires.stored places is)

pub returns-clause-lasting : goal.returns-clause-lasting
returns-clause-lasting g c =
    subst (λ (f : Following). KnownThen (g.H.Shelf.seen c.args.shelf.now) (g.H.Shelf.seen c.commit.new.shelf) (λ _ after. stands f.keeper.state.mailbox.me after ≡ Ok f.keeper.state))
    c.self.view_is c.in_ok-commit.ensures.lasting
