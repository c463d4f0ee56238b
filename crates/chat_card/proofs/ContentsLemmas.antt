-- The contents of a mail, put together.
use Rattle.std.proofs.Common.{◌≡◌, ℕ, Bool, List, [], Option, map, refl, ap, ◌∙◌}
use Rattle.std.specs.Prelude.{unwrap_or}
use Rattle.std.specs.List.{filter_map, join_with_byte}
use Rattle.card_type.specs.declared.card.Attachment.{Attachment}
use Rattle.card_type.specs.declared.card.Update.{Update}
use Rattle.chat_card.specs.declared.contents.Contents.{Contents}
use Rattle.chat_card.specs.Parts.{Part}
use Rattle.chat_card.specs.Contents.{contents_in, contents_with}
use Rattle.chat_card.specs.Files.{attached, attachment, has_app, updates_in}
use Rattle.chat_card.specs.Reactions.{reaction_in, read_parts}
use Rattle.chat_card.specs.Receipts.{receipt_of}
use Rattle.chat_card.specs.Shown.{Kept, file_of, kept_of, text_of}

abbrev contents : List ℕ → List Attachment → Option (List ℕ) → Bool → List Update → Option (List ℕ) → Contents
contents text attachments receipt app updates reaction = record {
  text = text;
  attachments = attachments;
  receipt = receipt;
  app = app;
  updates = updates;
  reaction = reaction;
}

pub put-together : (parts found left : List Part) (kept : List Kept) (text : List ℕ) (attachments : List Attachment) (receipt : Option (List ℕ)) (app : Bool) (updates : List Update) (reaction : Option (List ℕ))
    → kept ≡ kept_of parts → found ≡ filter_map file_of kept → left ≡ attached found
    → text ≡ join_with_byte 10 (filter_map text_of kept) → attachments ≡ map attachment left
    → app ≡ has_app found → updates ≡ unwrap_or (updates_in found) []
    → contents text attachments receipt app updates reaction ≡ contents_with receipt reaction parts
put-together parts found left kept text attachments receipt app updates reaction keeps finds leaves shows attaches is_app brings =
    rw (shows, attaches, is_app, brings, leaves, finds, keeps) refl

-- once the reaction is taken out of the parts
pub without-reaction : (is_reply : Bool) (edit : Option (List ℕ)) (whole parts left : List Part) (receipt reaction : Option (List ℕ))
    → parts ≡ whole → receipt ≡ receipt_of parts → reaction ≡ reaction_in is_reply edit parts → left ≡ read_parts is_reply edit parts
    → contents_with receipt reaction left ≡ contents_in is_reply edit whole
without-reaction is_reply edit whole parts left receipt reaction are tells says leaves =
    (λ i. contents_with (tells i) (says i) (leaves i)) ∙ ap (contents_in is_reply edit) are
