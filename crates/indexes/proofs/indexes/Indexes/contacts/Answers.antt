use Rattle.mailbox_model.specs.Present.{present_cards}
use Rattle.indexes.proofs.ListedContacts.{contacts_are}
use Rattle.indexes.proofs.indexes.Indexes.contacts.Goals as goal

pub returns : goal.returns
returns c =
    let m = c.args.mailbox.now.mailbox in
    contacts_are c.args.self.now.contacts (present_cards m) c.requires.kept.cards.contacts c.me.result.now m.me c.me.ensures.value c.page.result (λ rows. rows.items) c.page.ensures.order c.page.ensures.all c.page.ensures.names
