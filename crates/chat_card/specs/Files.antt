-- The files of a mail (RFC 2183).
use Rattle.std.specs.Prelude.{ℕ, ◌-◌, Bool, nat_eq, if◌then◌else◌, List, ◌++◌, length, codes, bytes_eq, find, Option, None, is_some}
use Rattle.std.specs.Result.{result_ok}
use Rattle.std.specs.List.{after_first, before_first, ends_with, list_any}
use Rattle.kit.specs.Letters.{lowered}
use Rattle.kit.specs.Options.{◌>>=◌}
use Rattle.card_type.specs.declared.card.Attachment.{Attachment}
use Rattle.card_type.specs.declared.card.Update.{Update}
use Rattle.mime_fields.specs.Kinds.{Kind}
use Rattle.part_read.specs.Updates.{updates}
use Rattle.chat_card.specs.Parts.{Part}

-- the size of its decoded content; of a multipart that was not opened, of its undecoded content
abbrev pub size_of : Part → ℕ
size_of p =
    if bytes_eq p.node.kind.top (codes "multipart") then p.node.end - p.node.start else length p.content

-- a media type as it is written
abbrev pub kind_text : Kind → List ℕ
kind_text kind = kind.top ++ codes "/" ++ kind.sub

abbrev pub attachment : Part → Attachment
attachment p = record { kind = kind_text p.node.kind; name = p.node.name; size = size_of p }

-- ---- apps and their updates: the attachment rule and the update part rule

-- whether a file is an app, by its name, whose case does not count
abbrev pub is_app : Part → Bool
is_app p = ends_with nat_eq (lowered p.node.name) (codes ".xdc")

abbrev pub has_app : List Part → Bool
has_app files = list_any is_app files

abbrev pub is_update_file : Part → Bool
is_update_file p = bytes_eq p.node.name (codes "status-update.json")

-- the file that is to be read for updates: the first of its name, where no file is an app
abbrev pub update_file : List Part → Option Part
update_file files = if has_app files then None else find is_update_file files

-- the files without the first of that name
abbrev pub other_files : List Part → List Part
other_files files = before_first is_update_file files ++ after_first is_update_file files

-- the updates of a mail with these files, if it has a file of them
abbrev pub updates_in : List Part → Option (List Update)
updates_in files = update_file files >>= λ f. result_ok (updates f.content)

-- the files that are attachments: a file of updates is none
abbrev pub attached : List Part → List Part
attached files = if is_some (updates_in files) then other_files files else files
