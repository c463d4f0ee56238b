-- The contents of a mail: what it shows, and what it says to a chat program.
use Rattle.std.specs.Prelude.{ℕ, Bool, List, [], map, Option, unwrap_or}
use Rattle.mail_headers.specs.Headers.{Head}
use Rattle.chat_card.specs.declared.contents.Contents.{Contents}
use Rattle.chat_card.specs.Files.{attached, attachment, has_app, updates_in}
use Rattle.chat_card.specs.Parts.{Part, parts_of}
use Rattle.chat_card.specs.Reactions.{reaction_in, read_parts}
use Rattle.chat_card.specs.Receipts.{receipt_of}
use Rattle.chat_card.specs.Shown.{files, shown}

-- what parts show, beside a receipt and a reaction
abbrev pub contents_with : (receipt reaction : Option (List ℕ)) → List Part → Contents
contents_with receipt reaction parts =
    let found = files parts in
    record {
      text = shown parts;
      attachments = map attachment (attached found);
      receipt = receipt;
      app = has_app found;
      updates = unwrap_or (updates_in found) [];
      reaction = reaction;
    }

-- the contents of a mail of these parts, which answers another or none and edits another or none
abbrev pub contents_in : (is_reply : Bool) (edit : Option (List ℕ)) → List Part → Contents
contents_in is_reply edit parts =
    contents_with (receipt_of parts) (reaction_in is_reply edit parts) (read_parts is_reply edit parts)

-- the contents of such a mail of this header and this body
abbrev pub contents_of : (is_reply : Bool) (edit : Option (List ℕ)) → Head → List ℕ → Contents
contents_of is_reply edit head body = contents_in is_reply edit (parts_of head body)
