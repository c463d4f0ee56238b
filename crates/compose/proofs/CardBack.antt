-- The card of a written draft is the intended one.
use Rattle.std.proofs.Common.{◌≡◌, ℕ, suc, ◌+◌, ◌/◌, ◌<◌, ◌≤◌, ◌==◌, Bool, true, false, List, [], ◌∷◌, ◌++◌, length, drop, Option, Some, None, IfSome, Ok, Err, refl, subst, sym, ap, ◌∙◌, arith, inl, inr, pos}
use Rattle.std.specs.Prelude.{codes, filter_map, is_none, is_some, nat_lt, option_map, slice_get, unwrap_or, if◌then◌else◌}
use Rattle.std.specs.Str.{IsUtf8, is_utf8, chars}
use Rattle.std.proofs.lemmas.Bool.{cases_Bool, le-leb, le-ltb, ne_eqb}
use Rattle.std.proofs.lemmas.Str.{IsUtf8-append, IsUtf8-from_is_utf8}
use Rattle.card_type.specs.Kinds.{has_some}
use Rattle.card_type.specs.Rules.{fits_weight}
use Rattle.flowed_text.specs.Flowed.{user_text}
use Rattle.jiff_core.specs.declared.civil.date.Date.{Date}
use Rattle.jiff_core.specs.Date.{epoch_day}
use Rattle.kit.specs.Ids.{is_id}
use Rattle.kit.specs.Moments.{last_moment}
use Rattle.lists.specs.Distinct.{each_once}
use Rattle.mail_headers.specs.Headers.{Head, field}
use Rattle.mime_fields.specs.Kinds.{disposition}
use Rattle.chat_card.specs.Cards.{accepted, card_by, card_from, card_if, card_of}
use Rattle.chat_card.specs.Contents.{contents_of}
use Rattle.chat_card.specs.Envelope.{envelope_of, sender as sender_of}
use Rattle.chat_card.specs.Reactions.{one_line}
use Rattle.chat_card.specs.Requests.{requests_of}
use Rattle.chat_card.specs.Texts.{card_text, prefix, uncut, unmarked}
use Rattle.chat_card.specs.declared.contents.Contents.{Contents}
use Rattle.chat_card.specs.declared.envelope.Envelope.{Envelope}
use Rattle.chat_card.specs.declared.requests.Requests.{Requests}
use Rattle.chat_card.specs.declared.text.CardText.{CardText}
use Rattle.chat_card.specs.declared.fault.CardFault.TheVariants as fault
use Rattle.mail_address.specs.declared.person.Person.{Person}
use Rattle.compose.specs.declared.draft.Act.{Act}
use Rattle.compose.specs.declared.draft.Act.TheVariants as act
use Rattle.compose.specs.declared.draft.Draft.{Draft}
use Rattle.compose.specs.Fields as written
use Rattle.compose.specs.Fields.{ended}
use Rattle.compose.specs.Intended.{added, deleted, edited, intended, notifications, old_name, one_or_none, reacts, receipt_for, named_group, removed}
use Rattle.compose.specs.Mails.{coding_of, content_by, edit_mark, mail_of, marked, slots, type_of}
use Rattle.compose.specs.Refusals.{ends_in_space}
use Rattle.compose.specs.Written.{body_text}
use Rattle.compose.proofs.ContentsBack.{contents_reaction, contents_text}
use Rattle.compose.proofs.Endings.{trimmed-same}
use Rattle.compose.proofs.ReportBack.{contents_report}
use Rattle.compose.proofs.Envelope.{Open, Reads, body_back, head_of, reads}
use Rattle.compose.proofs.FieldsBack.{header_of-slots, slot_field, unfolded}
use Rattle.compose.proofs.Marks.{user_text-marked}
use Rattle.compose.proofs.TreeBack.{disposed, no_disposition, reaction_disposition}
use Rattle.compose.proofs.DatesBack.{text_printing}
use Rattle.compose.proofs.Values.{Keeps, are_slots}

-- ---- the text of the card

ends_marked : (edit : Option (List ℕ)) (text : List ℕ) → ends_in_space text ≡ false → ends_in_space (marked edit text) ≡ false
ends_marked None text end = end
ends_marked (Some id) [] end = refl
ends_marked (Some id) (b ∷ bs) end = end

unmarked-marked : (edit : Option (List ℕ)) (text : List ℕ) → unmarked edit (marked edit text) ≡ text
unmarked-marked None text = refl
unmarked-marked (Some id) text = refl

abbrev whole_text : List ℕ → CardText
whole_text text = record { text = text; cut = false }

card_text_back : (edit : Option (List ℕ)) (text : List ℕ) → ends_in_space text ≡ false → length text ≤ 32768 → card_text edit (marked edit text) ≡ whole_text text
card_text_back edit text end le =
    let same : uncut edit (marked edit text) ≡ text = ap (unmarked edit) (trimmed-same (marked edit text) (ends_marked edit text end)) ∙ unmarked-marked edit text in
    let short : prefix 32768 text ≡ text = rw (le-leb (length text) 32768 le) refl in
    let no_cut : nat_lt (length text) (length text) ≡ false = le-ltb (length text) (length text) (omega arith) in
    ap (λ t. record { text = prefix 32768 t; cut = nat_lt (length (prefix 32768 t)) (length t) }) same
    ∙ ap (λ (p : List ℕ). record { text = p; cut = nat_lt (length p) (length text) }) short
    ∙ ap (λ cut. record { text = text; cut = cut }) no_cut

own_marked : (edit : Option (List ℕ)) (text : List ℕ) → user_text text ≡ text → user_text (marked edit text) ≡ marked edit text
own_marked None text own = own
own_marked (Some id) text own = user_text-marked text own

mark_utf8 : IsUtf8 edit_mark
unfolding is_utf8 chars lib.Utf8.encode
mark_utf8 = IsUtf8-from_is_utf8 edit_mark refl

pub utf8_marked : (edit : Option (List ℕ)) (text : List ℕ) → IsUtf8 text → IsUtf8 (marked edit text)
utf8_marked None text u = u
utf8_marked (Some id) text u = IsUtf8-append edit_mark text mark_utf8 u

-- ---- the fields

abbrev envelope : Draft → Envelope
envelope d = record {
  id = d.id;
  to = each_once d.to;
  cc = [];
  date = Some d.date;
  replies = one_or_none d.reply;
  references = d.references;
  subject = d.subject;
}

envelope_back : (uid : ℕ) (d : Draft) (head : Head) → Reads d head → envelope_of uid head ≡ envelope d
envelope_back uid d head r = rw (r.id, r.to, r.cc, r.date, r.replies, r.references, r.subject) refl

abbrev requests : Draft → Requests
requests d = record {
  chat = true;
  group = d.group;
  group_name = named_group d.group d.group_name;
  added = added d.act;
  removed = removed d.act;
  renamed = is_some (old_name d.act);
  edit = edited d.act;
  deletes = deleted d.act;
  timer = d.timer;
}

first_told : (x : Option (List ℕ)) → slice_get (one_or_none x) 0 ≡ x
first_told None = refl
first_told (Some x) = refl

requests_back : (d : Draft) (head : Head) → Reads d head → requests_of head ≡ requests d
requests_back d head r =
    rw (r.chat, r.group, r.group_name, r.added, r.removed, r.renamed, r.edited, r.deleted, r.timer) (
    ap (λ (edit : Option (List ℕ)). record {
      chat = true;
      group = d.group;
      group_name = named_group d.group d.group_name;
      added = added d.act;
      removed = removed d.act;
      renamed = is_some (old_name d.act);
      edit = edit;
      deletes = deleted d.act;
      timer = d.timer;
    }) (first_told (edited d.act)))

sender_is : (d : Draft) (head : Head) → Reads d head → sender_of head ≡ Some (record { addr = d.from; name = d.from_name })
sender_is d head r = ap (λ ps. slice_get ps 0) r.from

-- ---- the contents

-- what is asked of a text that is shown
pub record Shown (d : Draft) : Type 0 where
  pub own : user_text d.text ≡ d.text
  pub end : ends_in_space d.text ≡ false
  pub short : length d.text ≤ 32768

-- what is asked of a reaction
pub record Said (d : Draft) : Type 0 where
  pub reply : is_none d.reply ≡ false
  pub line : one_line d.text ≡ d.text
  pub short : length d.text ≤ 255

pub record Fine (d : Draft) : Type 0 where
  pub shown : reacts d.act ≡ false → Shown d
  pub said : reacts d.act ≡ true → Said d

-- what the mail shows, and what it says as a reaction
abbrev contents_as : Draft → Bool → Option (List ℕ) → Contents
contents_as d reacts receipt = record {
  text = if reacts then [] else marked (edited d.act) d.text;
  attachments = notifications d.from receipt;
  receipt = receipt;
  app = false;
  updates = [];
  reaction = if reacts then Some d.text else None;
}

abbrev is_reply : Draft → Bool
is_reply d = has_some (one_or_none d.reply)

-- what the fields say of the content
record Typed (d : Draft) (head : Head) : Type 0 where
  type : field head (codes "Content-Type") ≡ type_of (receipt_for d.act)
  coding : field head (codes "Content-Transfer-Encoding") ≡ unwrap_or (option_map unfolded (coding_of (receipt_for d.act))) []
  told : disposition (field head (codes "Content-Disposition")) ≡ disposed (reacts d.act)

edits_nothing : (act : Act) (id : List ℕ) → receipt_for act ≡ Some id → edited act ≡ None
edits_nothing (act.Receipt mail) id e = refl
edits_nothing act.Say id e = absurd cc
edits_nothing (act.Add who) id e = absurd cc
edits_nothing (act.Remove who) id e = absurd cc
edits_nothing (act.Rename name) id e = absurd cc
edits_nothing (act.Edit mail) id e = absurd cc
edits_nothing (act.Delete mails) id e = absurd cc
edits_nothing act.React id e = absurd cc

shown_by : (d : Draft) (head : Head) (receipt : Option (List ℕ)) → receipt_for d.act ≡ receipt → field head (codes "Content-Type") ≡ type_of receipt
    → field head (codes "Content-Transfer-Encoding") ≡ unwrap_or (option_map unfolded (coding_of receipt)) []
    → disposition (field head (codes "Content-Disposition")) ≡ disposed false → Keeps d → Shown d
    → contents_of (is_reply d) (edited d.act) head (content_by d receipt) ≡ contents_as d false receipt
shown_by d head None is type coding told k shown =
    contents_text (is_reply d) (edited d.act) head (marked (edited d.act) d.text) type coding told (utf8_marked (edited d.act) d.text k.text) (own_marked (edited d.act) d.text shown.own)
shown_by d head (Some id) is type coding told k shown =
    contents_report (is_reply d) (edited d.act) head d.from id d.text type k.from (subst (λ r. IfSome r (λ i. is_id i ≡ true)) is k.receipt_for) k.text shown.own
    ∙ ap (λ edit. record { text = marked edit d.text; attachments = notifications d.from (Some id); receipt = Some id; app = false; updates = []; reaction = None }) (sym (edits_nothing d.act id is))

pub is_react : (a : Act) → reacts a ≡ true → a ≡ act.React
is_react act.React e = refl
is_react act.Say e = absurd cc
is_react (act.Add who) e = absurd cc
is_react (act.Remove who) e = absurd cc
is_react (act.Rename name) e = absurd cc
is_react (act.Edit mail) e = absurd cc
is_react (act.Delete mails) e = absurd cc
is_react (act.Receipt mail) e = absurd cc

has_reply : (reply : Option (List ℕ)) → is_none reply ≡ false → has_some (one_or_none reply) ≡ true
has_reply None e = absurd cc
has_reply (Some id) e = refl

said_by : (d : Draft) (head : Head) → reacts d.act ≡ true → Typed d head → Keeps d → Said d
    → contents_of (is_reply d) (edited d.act) head (content_by d (receipt_for d.act)) ≡ contents_as d true (receipt_for d.act)
said_by d head r typed k said =
    let is : d.act ≡ act.React = is_react d.act r in
    let receipt : receipt_for d.act ≡ None = ap receipt_for is in
    let edits : edited d.act ≡ None = ap edited is in
    let content : content_by d (receipt_for d.act) ≡ body_text d.text = ap (content_by d) receipt ∙ ap (λ edit. body_text (marked edit d.text)) edits in
    ap (contents_of (is_reply d) (edited d.act) head) content
    ∙ ap (λ edit. contents_of (is_reply d) edit head (body_text d.text)) edits
    ∙ ap (λ reply. contents_of reply None head (body_text d.text)) (has_reply d.reply said.reply)
    ∙ contents_reaction head d.text (typed.type ∙ ap type_of receipt) (typed.coding ∙ ap (λ receipt. unwrap_or (option_map unfolded (coding_of receipt)) []) receipt)
    (typed.told ∙ ap disposed r) k.text said.line said.short
    ∙ sym (ap (contents_as d true) receipt)

-- what is read of the content, and the text of the card
record Tells (d : Draft) (head : Head) : Type 0 where
  contents : contents_of (is_reply d) (edited d.act) head (content_by d (receipt_for d.act)) ≡ contents_as d (reacts d.act) (receipt_for d.act)
  text : card_text (edited d.act) (contents_as d (reacts d.act) (receipt_for d.act)).text ≡ whole_text (if reacts d.act then [] else d.text)

tells : (d : Draft) (head : Head) → Typed d head → Keeps d → Fine d → Tells d head
tells d head typed k fine = elim (cases_Bool (reacts d.act)) [
  | inl r ↦ record {
    contents = said_by d head r typed k (fine.said r) ∙ ap (λ b. contents_as d b (receipt_for d.act)) (sym r);
    text = ap (λ b. card_text (edited d.act) (contents_as d b (receipt_for d.act)).text) r ∙ ap (λ edit. card_text edit []) (ap edited (is_react d.act r)) ∙ ap (λ b. whole_text (if b then [] else d.text)) (sym r);
  }
  | inr speaks ↦
      let shown = fine.shown speaks in
      record {
        contents = shown_by d head (receipt_for d.act) refl typed.type typed.coding (typed.told ∙ ap disposed speaks) k shown ∙ ap (λ b. contents_as d b (receipt_for d.act)) (sym speaks);
        text = ap (λ b. card_text (edited d.act) (contents_as d b (receipt_for d.act)).text) speaks ∙ card_text_back (edited d.act) d.text shown.end shown.short
            ∙ ap (λ b. whole_text (if b then [] else d.text)) (sym speaks);
      }
]

disposition_back : (reacts : Bool) → disposition (unwrap_or (option_map unfolded (if reacts then Some (codes "reaction" ∷ []) else None)) []) ≡ disposed reacts
disposition_back true = reaction_disposition
disposition_back false = no_disposition

-- ---- the card

some_fields : (d : Draft) → (length (filter_map slot_field (slots d)) == 0) ≡ false
some_fields d = ne_eqb (length (filter_map slot_field (slots d))) 0 (λ none. absurd (omega (arith, none)))

body_is : (d : Draft) → drop (length (ended (written.header_lines (slots d))) + 1) (mail_of d) ≡ content_by d (receipt_for d.act)
body_is d = after_line (ended (written.header_lines (slots d))) (content_by d (receipt_for d.act))
  where
    after_line : (xs ys : List ℕ) → drop (length xs + 1) (xs ++ (10 ∷ ys)) ≡ ys
    after_line [] ys = refl
    after_line (x ∷ xs) ys = let more : length (x ∷ xs) + 1 ≡ suc (length xs + 1) = omega arith in rw more (after_line xs ys)

pub card_back : (uid : ℕ) (d : Draft) (day : Date) → epoch_day day ≡ pos (d.date / 86400) → d.date ≤ last_moment → 0 < length d.to
    → Keeps d → Open d → Fine d → fits_weight (intended d) ≡ true → card_of uid (mail_of d) ≡ Ok (intended d)
card_back uid d day e le some k o fine fits =
    let all = are_slots d k (text_printing day d.date e) in
    let head = head_of d in
    let r = reads d day e le some k o in
    let receipt = receipt_for d.act in
    let content = content_by d receipt in
    let is : head ≡ record { fields = filter_map slot_field (slots d); body_at = length (ended (written.header_lines (slots d))) + 1 } = header_of-slots (slots d) content all in
    let filled : (length head.fields == 0) ≡ false = ap (λ (h : Head). length h.fields == 0) is ∙ some_fields d in
    let body : drop head.body_at (mail_of d) ≡ content = ap (λ (h : Head). drop h.body_at (mail_of d)) is ∙ body_is d in
    let typed : Typed d head = record {
      type = r.type;
      coding = body_back d (codes "Content-Transfer-Encoding") all refl;
      told = ap disposition (body_back d (codes "Content-Disposition") all refl) ∙ disposition_back (reacts d.act);
    } in
    let t = tells d head typed k fine in
    let from : Person = record { addr = d.from; name = d.from_name } in
    let shown = contents_as d (reacts d.act) receipt in
    let card : card_from uid head from content ≡ intended d =
    ap (λ requests. let contents = contents_of (has_some (envelope_of uid head).replies) requests.edit head content in card_by from (envelope_of uid head) requests contents (card_text requests.edit contents.text)) (requests_back d head r)
    ∙ ap (λ fields. let contents = contents_of (has_some fields.replies) (edited d.act) head content in card_by from fields (requests d) contents (card_text (edited d.act) contents.text)) (envelope_back uid d head r)
    ∙ ap (λ contents. card_by from (envelope d) (requests d) contents (card_text (edited d.act) contents.text)) t.contents
    ∙ ap (λ text. card_by from (envelope d) (requests d) shown text) t.text in
    ap (λ empty. if empty then Err fault.NoFields else card_if uid head (sender_of head) (drop head.body_at (mail_of d))) filled
    ∙ ap (λ who. card_if uid head who (drop head.body_at (mail_of d))) (sender_is d head r)
    ∙ ap (λ bytes. accepted (card_from uid head from bytes)) body
    ∙ ap accepted card
    ∙ rw fits refl
