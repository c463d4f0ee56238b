-- Worked rows of the definitions, which compute.
use Rattle.std.proofs.Common.{◌≡◌, ℕ, false, List, [], ◌∷◌, codes, Some, None, refl}
use Rattle.std.specs.Fmt.{digits}
use Rattle.std.specs.Str.{is_utf8, chars}
use Rattle.std.specs.Fmt.Cut.{floor_char_boundary}
use Rattle.base64.specs.Rfc4648.{encode_symbols}
use Rattle.mailbox_model.specs.Times.{civil_date, span_and_rest}
use Rattle.compose.specs.declared.draft.Act.{Act}
use Rattle.compose.specs.declared.draft.Act.TheVariants as act
use Rattle.compose.specs.declared.draft.Draft.{Draft}
use Rattle.compose.specs.Dates.{date_text}
use Rattle.compose.specs.Fields.{ended, header_lines}
use Rattle.compose.specs.Mails.{act_slots, box_of, content_by, type_slots}
use Rattle.compose.specs.Refusals.{refusal}
use Rattle.compose.specs.Written.{words}
use Rattle.compose.specs.declared.fault.DraftFault.TheVariants as fault

abbrev said : List ℕ → Draft
said text = record {
  id = codes "c1714564800.2.me@x.org";
  from = codes "me@x.org";
  from_name = [];
  to = codes "bob@x.org" ∷ [];
  date = 1714564800;
  subject = [];
  reply = Some (codes "m1@x.org");
  references = [];
  group = None;
  group_name = [];
  timer = 0;
  ask = false;
  text = text;
  act = act.Say;
}

hello : box_of (said (codes "Hello")) ≡ codes "From -\nFrom: me@x.org\nTo: bob@x.org\nDate: Wed, 01 May 2024 12:00:00 +0000\nMessage-ID: <c1714564800.2.me@x.org>\nIn-Reply-To: <m1@x.org>\nChat-Version: 1.0\nMIME-Version: 1.0\nContent-Type: text/plain; charset=utf-8\nContent-Transfer-Encoding: base64\n\nSGVsbG8=\n\n"
unfolding encode_symbols civil_date span_and_rest digits
hello = refl

two_words : words (codes "aaaaaaaaaaaaaaaaaaaaaaaaaaaaaaaaaaaaaaaaaaaaaa") ≡ codes "=?utf-8?B?YWFhYWFhYWFhYWFhYWFhYWFhYWFhYWFhYWFhYWFhYWFhYWFhYWFhYWFhYWFh?=" ∷ codes "=?utf-8?B?YQ==?=" ∷ []
unfolding encode_symbols floor_char_boundary
two_words = refl

first_moment : date_text 0 ≡ codes "Thu, 01 Jan 1970 00:00:00 +0000"
unfolding civil_date span_and_rest
first_moment = refl

-- ---- each refusal

abbrev acting : Act → Draft
acting what = record (said (codes "Hello")) { act = what }

no_to : refusal (record (said (codes "Hello")) { to = [] }) ≡ Some fault.NoTo
no_to = refl

no_group : refusal (acting (act.Add (codes "eve@x.org"))) ≡ Some fault.NoGroup
no_group = refl

no_mail : refusal (acting (act.Delete [])) ≡ Some fault.NoTarget
no_mail = refl

no_reply : refusal (record (acting act.React) { reply = None }) ≡ Some fault.NoTarget
no_reply = refl

bracket : refusal (record (said (codes "Hello")) { to = codes "bob@[192.0.2.1]" ∷ [] }) ≡ Some fault.BadAddr
bracket = refl

above_a_signature : refusal (said (codes "a\n-- \nb")) ≡ Some fault.BadText
above_a_signature = refl

two_spaces : refusal (record (acting act.React) { text = codes "a  b" }) ≡ Some fault.BadText
unfolding is_utf8 chars lib.Utf8.encode
two_spaces = refl

-- ---- each act

adds : ended (header_lines (act_slots (act.Add (codes "eve@x.org")))) ≡ codes "Chat-Group-Member-Added: eve@x.org\n"
adds = refl

removes : ended (header_lines (act_slots (act.Remove (codes "eve@x.org")))) ≡ codes "Chat-Group-Member-Removed: eve@x.org\n"
removes = refl

renames : ended (header_lines (act_slots (act.Rename []))) ≡ codes "Chat-Group-Name-Changed: \n"
renames = refl

edits : ended (header_lines (act_slots (act.Edit (codes "m1@x.org")))) ≡ codes "Chat-Edit: <m1@x.org>\n"
edits = refl

edited_text : content_by (acting (act.Edit (codes "m1@x.org"))) None ≡ codes "4pyP77iPSGVsbG8=\n"
unfolding encode_symbols
edited_text = refl

deletes : ended (header_lines (act_slots (act.Delete (codes "m1@x.org" ∷ codes "m2@x.org" ∷ [])))) ≡ codes "Chat-Delete: <m1@x.org> <m2@x.org>\n"
deletes = refl

reacts : ended (header_lines (type_slots act.React)) ≡ codes "Content-Type: text/plain; charset=utf-8\nContent-Disposition: reaction\nContent-Transfer-Encoding: base64\n"
reacts = refl

receipt : content_by (acting (act.Receipt (codes "m1@x.org"))) (Some (codes "m1@x.org")) ≡ codes "--=_chats\nContent-Type: text/plain; charset=utf-8\nContent-Transfer-Encoding: base64\n\nSGVsbG8=\n--=_chats\nContent-Type: message/disposition-notification\n\nFinal-Recipient: rfc822;me@x.org\nOriginal-Message-ID: <m1@x.org>\nDisposition: manual-action/MDN-sent-automatically; displayed\n--=_chats--\n"
unfolding encode_symbols
receipt = refl
