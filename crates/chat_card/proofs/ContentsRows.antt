-- Worked rows of the contents of mails with apps and updates, which compute.
use Rattle.std.proofs.Common.{◌≡◌, ℕ, Bool, true, false, List, [], ◌∷◌, ◌++◌, Some, None, codes, refl}
use Rattle.std.specs.Fmt.{digits}
use Rattle.std.specs.Prelude.{⊤}
use Rattle.std.specs.Str.{is_utf8, chars}
use Rattle.std.specs.Str.Lossy.{utf8_lossy, utf8_valid_len, utf8_error_len}
use Rattle.serde_json.proofs.OnLiterals.{serde_json_on_literals}
use Rattle.card_type.specs.declared.card.Attachment.{Attachment}
use Rattle.card_type.specs.declared.card.Payload.TheVariants.{Json}
use Rattle.card_type.specs.declared.card.Update.{Update}
use Rattle.chat_card.specs.declared.contents.Contents.{Contents}
use Rattle.chat_card.specs.Contents.{contents_in}
use Rattle.chat_card.proofs.ShownRows.{file, in_mail, multipart, plain}

unfoldable on_literals : ⊤
unfolding serde_json_on_literals utf8_lossy utf8_valid_len utf8_error_len is_utf8 chars lib.Utf8.encode digits
on_literals = tt

-- a text and these parts
abbrev contents : List (List ℕ) → Contents
contents ps = contents_in false None (in_mail (multipart (codes "mixed") (codes "d") (plain ∷ ps)))

-- what a mail with that text has
abbrev row : List Attachment → Bool → List Update → Contents
row attachments app updates = record { text = codes "Hi"; attachments = attachments; receipt = None; app = app; updates = updates; reaction = None }

abbrev chess : List ℕ
chess = codes "Content-Type: application/webxdc+zip\nContent-Disposition: attachment; filename=\"chess.xdc\"\nContent-Transfer-Encoding: base64\n\nUEsDBA==\n"

abbrev updates_file : List ℕ → List ℕ
updates_file json = codes "Content-Type: application/json\nContent-Disposition: attachment; filename=\"status-update.json\"\n\n" ++ (json ++ 10 ∷ [])

abbrev move : List ℕ
move = codes "{\"updates\":[{\"payload\":{\"move\":1},\"info\":\"e4\"}]}"

app : contents (chess ∷ []) ≡ row (file (codes "application/webxdc+zip") (codes "chess.xdc") 4 ∷ []) true []
unfolding on_literals
app = refl

update : contents (updates_file move ∷ [])
    ≡ row [] false (record { payload = Json (codes "{\"move\":1}"); info = Some (codes "e4"); document = None; summary = None } ∷ [])
unfolding on_literals
update = refl

-- an empty list is accepted
no_updates : contents (updates_file (codes "{\"updates\":[]}") ∷ []) ≡ row [] false []
unfolding on_literals
no_updates = refl

-- what is no list of updates stays a file, and no other file is read
refused : contents (updates_file (codes "{}") ∷ updates_file move ∷ [])
    ≡ row (file (codes "application/json") (codes "status-update.json") 2 ∷ file (codes "application/json") (codes "status-update.json") 48 ∷ []) false []
unfolding on_literals
refused = refl

beside_an_app : contents (updates_file move ∷ chess ∷ [])
    ≡ row (file (codes "application/json") (codes "status-update.json") 48 ∷ file (codes "application/webxdc+zip") (codes "chess.xdc") 4 ∷ []) true []
unfolding on_literals
beside_an_app = refl
