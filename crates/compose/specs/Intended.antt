-- The card that a draft is to be read as.
use Rattle.std.specs.Prelude.{ℕ, Bool, true, false, if◌then◌else◌, List, [], ◌∷◌, ◌++◌, length, codes, is_some, Option, Some, None}
use Rattle.lists.specs.Distinct.{each_once}
use Rattle.card_type.specs.declared.card.Attachment.{Attachment}
use Rattle.card_type.specs.declared.card.Card.{Card}
use Rattle.compose.specs.declared.draft.Act.{Act}
use Rattle.compose.specs.declared.draft.Act.TheVariants as act
use Rattle.compose.specs.declared.draft.Draft.{Draft}

-- ---- what an act says

abbrev pub added : Act → Option (List ℕ)
added (act.Add who) = Some who
added _ = None

abbrev pub removed : Act → Option (List ℕ)
removed (act.Remove who) = Some who
removed _ = None

-- the name that the group had
abbrev pub old_name : Act → Option (List ℕ)
old_name (act.Rename name) = Some name
old_name _ = None

abbrev pub edited : Act → Option (List ℕ)
edited (act.Edit id) = Some id
edited _ = None

abbrev pub deleted : Act → List (List ℕ)
deleted (act.Delete mails) = mails
deleted _ = []

abbrev pub receipt_for : Act → Option (List ℕ)
receipt_for (act.Receipt id) = Some id
receipt_for _ = None

abbrev pub reacts : Act → Bool
reacts act.React = true
reacts _ = false

-- ---- the card

-- what a receipt says to programs (RFC 3798, section 3), of who sends it and of the mail that it is for
abbrev pub notification : List ℕ → List ℕ → List ℕ
notification from id =
    codes "Final-Recipient: rfc822;" ++ (from ++ (codes "\nOriginal-Message-ID: <" ++ (id
    ++ codes ">\nDisposition: manual-action/MDN-sent-automatically; displayed")))

-- it is the one attachment that a draft has
abbrev pub notifications : List ℕ → Option (List ℕ) → List Attachment
notifications from None = []
notifications from (Some id) =
    record { kind = codes "message/disposition-notification"; name = []; size = length (notification from id) } ∷ []

-- the name of a group, which counts only with one
abbrev pub named_group : Option (List ℕ) → List ℕ → List ℕ
named_group None name = []
named_group (Some group) name = name

abbrev pub one_or_none : Option (List ℕ) → List (List ℕ)
one_or_none None = []
one_or_none (Some x) = x ∷ []

-- The text of a reaction (RFC 9078) is no text of the card.
abbrev pub intended : Draft → Card
intended d =
    record {
      id = d.id;
      from = d.from;
      from_name = d.from_name;
      to = each_once d.to;
      cc = [];
      date = Some d.date;
      replies = one_or_none d.reply;
      references = d.references;
      chat = true;
      group = d.group;
      group_name = named_group d.group d.group_name;
      added = added d.act;
      removed = removed d.act;
      renamed = is_some (old_name d.act);
      edit = edited d.act;
      deletes = deleted d.act;
      timer = d.timer;
      subject = d.subject;
      text = if reacts d.act then [] else d.text;
      cut = false;
      attachments = notifications d.from (receipt_for d.act);
      receipt = receipt_for d.act;
      app = false;
      updates = [];
      reaction = if reacts d.act then Some d.text else None;
    }
