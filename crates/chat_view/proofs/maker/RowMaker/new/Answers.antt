use Rattle.std.proofs.Common.{refl, false}
use Rattle.chat_view.proofs.maker.RowMaker.new.Goals as goal

pub returns-clause-stands : goal.returns-clause-stands
returns-clause-stands c =
    let spot = c.args.spot.now in
    let card = c.args.card.now in
    record {
      row = λ i. record {
        uid = spot.uid;
        id = c.in_ok-copy.ensures i;
        date = spot.date;
        from = c.in_ok-copy-2.ensures i;
        chat = card.chat;
        subject = c.in_ok-copy-3.ensures i;
        text = c.in_ok-copy-4.ensures i;
        cut = card.cut;
        edited = false;
        mark = c.mark_of.ensures spot i;
        attachments = c.in_ok-copy-5.ensures i;
        readers = c.new.ensures i;
        reactions = c.new-2.ensures i;
        app = card.app;
        updates = c.new-3.ensures i;
      };
      withdrawn = refl;
      expiry = c.expiry.ensures;
    }
