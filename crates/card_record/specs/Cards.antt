-- Reading the record of a card.
use Rattle.std.specs.Prelude.{ℕ, Bool, true, false, List, length, Option, None, Some, Ok, Err, if◌then◌else◌, ◌==◌}
use Rattle.std.specs.Int.{w32}
use Rattle.std.specs.Str.{is_utf8}
use Rattle.kit.specs.Addresses.{is_addr}
use Rattle.kit.specs.Ids.{is_id}
use Rattle.card_type.specs.Groups.{is_group}
use Rattle.card_type.specs.Rules.{fits_weight}
use Rattle.card_type.specs.declared.card.Card.{Card}
use Rattle.card_record.specs.declared.card.Envelope.{Envelope}
use Rattle.card_record.specs.declared.card.Requests.{Requests}
use Rattle.card_record.specs.declared.card.Said.{Said}
use Rattle.card_record.specs.declared.card.Shown.{Shown}
use Rattle.card_record.specs.Reading.{◌>>=◌, Read, byte_at, number_at, block_of, moment_at, flag_at, opt_of, list_of, new_addr, is_text_within, attachment_at, update_at}

unfoldable pub envelope_at : List ℕ → Read Envelope
envelope_at bytes = do
  id ← block_of is_id bytes
  from ← block_of is_addr id.1
  from_name ← block_of is_utf8 from.1
  to ← list_of new_addr from_name.1
  cc ← list_of new_addr to.1
  date ← opt_of moment_at cc.1
  replies ← list_of (λ _. block_of is_id) date.1
  references ← list_of (λ _. block_of is_id) replies.1
  Ok (record { id = id.0; from = from.0; from_name = from_name.0; to = to.0; cc = cc.0; date = date.0; replies = replies.0; references = references.0 }, references.1)

unfoldable pub requests_at : List ℕ → Read Requests
requests_at bytes = do
  chat ← flag_at bytes
  group ← opt_of (block_of is_group) chat.1
  group_name ← block_of is_utf8 group.1
  added ← opt_of (block_of is_addr) group_name.1
  removed ← opt_of (block_of is_addr) added.1
  renamed ← flag_at removed.1
  edit ← opt_of (block_of is_id) renamed.1
  deletes ← list_of (λ _. block_of is_id) edit.1
  timer ← number_at w32 deletes.1
  Ok (record { chat = chat.0; group = group.0; group_name = group_name.0; added = added.0; removed = removed.0; renamed = renamed.0; edit = edit.0; deletes = deletes.0; timer = timer.0 }, timer.1)

-- whether there is an app, and whether a reaction stands at the end
unfoldable pub app_at : List ℕ → Read (Bool × Bool)
app_at bytes = do
  n ← byte_at bytes
  if n.0 == 0 then Ok ((false, false), n.1)
      else if n.0 == 1 then Ok ((true, false), n.1)
      else if n.0 == 2 then Ok ((false, true), n.1)
      else if n.0 == 3 then Ok ((true, true), n.1)
      else Err (length bytes)

abbrev pub reaction_at : Bool → List ℕ → Read (Option (List ℕ))
reaction_at false bytes = Ok (None, bytes)
reaction_at true bytes = block_of (is_text_within 0 255) bytes >>= λ text. Ok (Some text.0, text.1)

unfoldable pub said_at : List ℕ → Read Said
said_at bytes = do
  app ← app_at bytes
  updates ← list_of (λ _. update_at) app.1
  reaction ← reaction_at app.0.1 updates.1
  Ok (record { app = app.0.0; updates = updates.0; reaction = reaction.0 }, reaction.1)

unfoldable pub shown_at : List ℕ → Read Shown
shown_at bytes = do
  subject ← block_of is_utf8 bytes
  text ← block_of (is_text_within 0 32768) subject.1
  cut ← flag_at text.1
  attachments ← list_of (λ _. attachment_at) cut.1
  receipt ← opt_of (block_of is_id) attachments.1
  said ← said_at receipt.1
  Ok (record { subject = subject.0; text = text.0; cut = cut.0; attachments = attachments.0; receipt = receipt.0; said = said.0 }, said.1)

abbrev pub joined : Envelope → Requests → Shown → Card
joined e r s =
    record {
      id = e.id;
      from = e.from;
      from_name = e.from_name;
      to = e.to;
      cc = e.cc;
      date = e.date;
      replies = e.replies;
      references = e.references;
      chat = r.chat;
      group = r.group;
      group_name = r.group_name;
      added = r.added;
      removed = r.removed;
      renamed = r.renamed;
      edit = r.edit;
      deletes = r.deletes;
      timer = r.timer;
      subject = s.subject;
      text = s.text;
      cut = s.cut;
      attachments = s.attachments;
      receipt = s.receipt;
      app = s.said.app;
      updates = s.said.updates;
      reaction = s.said.reaction;
    }

unfoldable pub later_at : List ℕ → Read (Requests × Shown)
later_at bytes = do
  r ← requests_at bytes
  s ← shown_at r.1
  Ok ((r.0, s.0), s.1)

unfoldable pub fields_at : List ℕ → Read Card
fields_at bytes = do
  e ← envelope_at bytes
  l ← later_at e.1
  Ok (joined e.0 l.0.0 l.0.1, l.1)

unfoldable pub record_at : List ℕ → Read Card
record_at bytes = do
  card ← fields_at bytes
  if fits_weight card.0 then Ok card else Err (length bytes)
