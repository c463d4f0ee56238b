-- An mbox that grows, and the mails after a mail.
use Rattle.std.specs.Prelude.{◌≡◌, ◌⊎◌, ℕ, ◌+◌, ◌-◌, ◌≤◌, true, List, [], ◌∷◌, ◌++◌, length, drop}
use Rattle.kit.specs.Lines.{raw_lines}
use Rattle.mboxrd.specs.Mails.{Mail, is_empty_line, begins_with_from, mails_from}

-- a closed mbox: one that is empty, or of which the last line is
abbrev pub IsClosed : List ℕ → Type 0
IsClosed mbox = (mbox ≡ [])
    ⊎ ((lines : List (List ℕ)) × (last : List ℕ) × (raw_lines mbox ≡ lines ++ (last ∷ [])) × (is_empty_line last ≡ true))

-- no bytes, or some that begin with a separator line
abbrev pub BeginsMail : List ℕ → Type 0
BeginsMail more = (more ≡ []) ⊎ (begins_with_from more ≡ true)

-- what comes after any offset in a closed mbox is closed as well
abbrev pub ClosedFrom : Type 0
ClosedFrom = (offset : ℕ) (mbox : List ℕ) → IsClosed mbox → IsClosed (drop offset mbox)

-- the mails of an mbox that grew are those of before, and then those of what was added
abbrev pub MailsGrow : Type 0
MailsGrow = (at : ℕ) (old more : List ℕ) → IsClosed old → BeginsMail more
    → mails_from at (old ++ more) ≡ mails_from at old ++ mails_from (at + length old) more

-- the end of a mail lies in the bytes, and the mails from there on are those that come after it
abbrev pub MailsGoOn : Type 0
MailsGoOn = (at : ℕ) (bytes : List ℕ) (mail : Mail) (mails : List Mail) → mails_from at bytes ≡ mail ∷ mails
    → (at ≤ mail.end) × (mail.end ≤ at + length bytes) × (mails_from mail.end (drop (mail.end - at) bytes) ≡ mails)
