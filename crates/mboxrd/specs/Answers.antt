-- What a reader of an mbox answers.
use Rattle.std.specs.Prelude.{◌≡◌, ◌≤◌, ◌<◌, ℕ, false, List, [], ◌∷◌, ◌++◌, length}
use Rattle.source_buffer.specs.Buffered as buffer
use Rattle.mboxrd.specs.declared.taken.Taken.{Taken}
use Rattle.mboxrd.specs.declared.taken.Taken.TheVariants as taken
use Rattle.mboxrd.specs.Mails.{Mail, mails_from}
use Rattle.mboxrd.specs.Reading.{Reading, position}

-- the most bytes that a mail may have: 64 MiB
abbrev pub max_mail_len : ℕ
max_mail_len = 67108864

-- The answer is the first of these mails, or that it is too long, or that there is none. The others are those from the
-- reader's new position on.
abbrev pub IsNext : List Mail → Taken → Reading → Reading → List Mail → Type 0
IsNext [] (taken.End) old new others = (others ≡ []) × (new.place ≡ old.place)
IsNext (m ∷ ms) (taken.Mail v) old new others =
    (v.items ≡ m.bytes) × (length m.bytes ≤ max_mail_len) × (new.place ≡ m.end) × (position new ≡ m.end) × (others ≡ ms)
IsNext (m ∷ ms) (taken.TooLong) old new others =
    (max_mail_len < length m.bytes) × (new.place ≡ m.end) × (position new ≡ m.end) × (others ≡ ms)
IsNext ms answer old new others = ⊥

-- what may follow the bytes that were taken: nothing where the reader is at no separator, since then it is at the end
abbrev pub MayFollow : Reading → List ℕ → Type 0
MayFollow r rest = r.at_separator ≡ false → rest ≡ []

-- With the bytes that were held, those that were taken decide the answer: it is the next mail, whatever follows them.
abbrev pub Decides : Reading → List ℕ → Taken → Reading → Type 0
Decides old bytes answer new = (rest : List ℕ) → MayFollow new rest
    → IsNext (mails_from (position old) (old.held ++ (bytes ++ rest))) answer old new (mails_from (position new) (new.held ++ rest))

-- what is held now is the rest of what was held and taken
abbrev pub HoldsRest : Reading → List ℕ → Reading → Type 0
HoldsRest old bytes new = buffer.HoldsRest old.held bytes new.held

-- At most one mail begins in what was held and taken, so where it ends is not known yet.
abbrev pub AtMostOneMail : Reading → List ℕ → Type 0
AtMostOneMail old bytes = length (mails_from (position old) (old.held ++ bytes)) ≤ 1
