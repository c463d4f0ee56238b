-- The cards of the worked mails, written by hand.
use Rattle.std.specs.Prelude.{ℕ, List, ◌+◌, ◌*◌, true, false, Option, Some, None, [], ◌∷◌, codes}
use Rattle.card_type.specs.declared.card.Card.{Card}
use Rattle.card_type.specs.declared.card.Attachment.{Attachment}
use Rattle.card_type.specs.declared.card.Update.{Update}
use Rattle.card_type.specs.declared.card.Payload.TheVariants.{Json}
use Rattle.card_type.specs.Cards.{card_of}

abbrev pub me : List ℕ
me = codes "me@x.org"

abbrev pub bob : List ℕ
bob = codes "bob@x.org"

abbrev pub ann : List ℕ
ann = codes "ann@x.org"

abbrev pub cid : List ℕ
cid = codes "cid@x.org"

abbrev pub trip : List ℕ
trip = codes "abcdefghijk"

-- U+1F44D, a thumb that is raised
abbrev pub thumb : List ℕ
thumb = 0xF0 ∷ 0x9F ∷ 0x91 ∷ 0x8D ∷ []

-- a time of 2024-05-01, or of the day after it where the hour passes 23
abbrev pub at : ℕ → ℕ → ℕ
at hour minute = 1714521600 + hour * 3600 + minute * 60

abbrev pub file : List ℕ → List ℕ → ℕ → Attachment
file kind name size = record { kind = kind; name = name; size = size }

-- ---- a chat with Bob: a mail, a second copy of it, edits, and what a stranger requests

abbrev pub M1 : Card
M1 = record (card_of (codes "m1@x.org") bob) { from_name = codes "Bob"; to = me ∷ []; date = Some (at 10 0); chat = true; text = codes "Hi" }

abbrev pub M2 : Card
M2 = record M1 { date = Some (at 9 0); text = codes "Hi there" }

abbrev pub E1 : Card
E1 = record M1 { date = Some (at 10 5); id = codes "e1@x.org"; edit = Some (codes "m1@x.org"); text = codes "Hello" }

abbrev pub E2 : Card
E2 = record E1 { date = Some (at 10 3); id = codes "e2@x.org"; text = codes "Hey" }

abbrev pub X1 : Card
X1 = record M1 { from = codes "eve@x.org"; from_name = []; date = Some (at 10 6); id = codes "x1@x.org"; edit = Some (codes "m1@x.org"); text = codes "No" }

abbrev pub X2 : Card
X2 = record X1 { id = codes "x2@x.org"; edit = None; deletes = codes "m1@x.org" ∷ [] }

abbrev pub T1 : Card
T1 = record M1 { from_name = []; id = codes "t1@x.org"; timer = 60; text = codes "Secret" }

-- a mail without Message-ID
abbrev pub F2 : Card
F2 = record M1 { from_name = []; date = Some 1903860000; id = codes "uid2@none"; text = codes "Late" }

-- ---- reactions to a mail of Bob: a thumb, and nothing, which takes it back

abbrev pub K1 : Card
K1 =
    record (card_of (codes "k1@x.org") me) {
      to = bob ∷ [];
      date = Some (at 10 10);
      replies = codes "m1@x.org" ∷ [];
      reaction = Some thumb;
    }

abbrev pub K2 : Card
K2 = record K1 { date = Some (at 10 12); id = codes "k2@x.org"; reaction = Some [] }

-- ---- a mail to Bob, and two receipts for it

abbrev pub O1 : Card
O1 = record M1 { from = me; from_name = []; to = bob ∷ []; id = codes "o1@x.org"; text = codes "Dinner?" }

abbrev pub N1 : Card
N1 =
    record (card_of (codes "n1@x.org") bob) {
      to = me ∷ [];
      date = Some (at 10 9);
      receipt = Some (codes "o1@x.org");
      text = codes "Read.";
      attachments = file (codes "message/disposition-notification") [] 92 ∷ [];
    }

abbrev pub N2 : Card
N2 = record N1 { date = Some (at 10 4); id = codes "n2@x.org" }

-- ---- a group, and mails that answer in it

abbrev pub G1 : Card
G1 =
    record (card_of (codes "g1@x.org") ann) {
      to = me ∷ bob ∷ [];
      date = Some (at 9 0);
      chat = true;
      group = Some trip;
      group_name = codes "Trip";
      text = codes "Welcome";
    }

abbrev pub G2 : Card
G2 = record G1 { to = me ∷ bob ∷ cid ∷ []; date = Some (at 9 10); id = codes "g2@x.org"; added = Some cid; text = codes "Cid is here" }

abbrev pub G3 : Card
G3 = record G2 { date = Some (at 9 20); id = codes "g3@x.org"; added = None; removed = Some bob; text = codes "Bob left" }

abbrev pub G4 : Card
G4 = record G1 { from = bob; to = me ∷ ann ∷ []; date = Some (at 9 25); id = codes "g4@x.org"; group_name = codes "Bobs"; renamed = true; text = codes "Mine" }

abbrev pub G0 : Card
G0 = record G1 { from = bob; to = me ∷ codes "dan@x.org" ∷ []; date = Some (at 8 50); id = codes "g0@x.org"; group_name = codes "Old trip"; text = codes "First" }

abbrev pub R1 : Card
R1 =
    record (card_of (codes "r1@x.org") bob) {
      to = me ∷ ann ∷ [];
      date = Some (at 9 30);
      replies = codes "g1@x.org" ∷ [];
      subject = codes "Re: Trip";
      text = codes "Count me in";
    }

abbrev pub R2 : Card
R2 = record R1 { from = ann; to = me ∷ bob ∷ []; date = Some (at 9 40); id = codes "r2@x.org"; replies = codes "r1@x.org" ∷ []; subject = []; text = codes "Good" }

abbrev pub R3 : Card
R3 = record R1 { to = me ∷ ann ∷ codes "zoe@x.org" ∷ []; date = Some (at 9 50); id = codes "r3@x.org"; text = codes "Me too" }

-- ---- an app, and its updates

abbrev pub A1 : Card
A1 =
    record (card_of (codes "a1@x.org") bob) {
      to = me ∷ [];
      date = Some (at 10 50);
      chat = true;
      text = codes "Chess?";
      attachments = file (codes "application/webxdc+zip") (codes "chess.xdc") 4 ∷ [];
      app = true;
    }

abbrev pub move : List ℕ → Option (List ℕ) → Update
move payload info = record { payload = Json payload; info = info; document = None; summary = None }

abbrev pub U1 : Card
U1 =
    record A1 {
      date = Some (at 11 0);
      id = codes "u1@x.org";
      replies = codes "a1@x.org" ∷ [];
      text = codes "Update";
      attachments = [];
      app = false;
      updates = move (codes "{\"move\":1}") (Some (codes "e4")) ∷ [];
    }

abbrev pub U2 : Card
U2 = record U1 { date = Some (at 11 10); id = codes "u2@x.org"; updates = move (codes "{\"move\":2}") None ∷ [] }

abbrev pub U3 : Card
U3 = record U1 { date = Some (at 11 20); id = codes "u3@x.org"; updates = move (codes "{\"move\":3}") (Some (codes "Nf3")) ∷ [] }

-- ---- a thread of plain mails, an app in the group, and an encrypted mail, all of the day after

abbrev pub H1 : Card
H1 =
    record (card_of (codes "h1@x.org") ann) {
      from_name = codes "Ann";
      to = me ∷ bob ∷ [];
      date = Some (at 32 0);
      subject = codes "Plans";
      text = codes "See the file.";
      attachments = file (codes "application/pdf") (codes "plan.pdf") 5 ∷ [];
    }

abbrev pub H2 : Card
H2 =
    record (card_of (codes "h2@x.org") bob) {
      from_name = codes "Bob";
      to = ann ∷ me ∷ [];
      date = Some (at 32 30);
      replies = codes "h1@x.org" ∷ [];
      references = codes "h1@x.org" ∷ [];
      subject = codes "Re: Plans";
      text = codes "Fine.";
    }

abbrev pub H3 : Card
H3 =
    record (card_of (codes "h3@x.org") me) {
      to = ann ∷ [];
      cc = bob ∷ [];
      date = Some (at 33 0);
      replies = codes "h2@x.org" ∷ [];
      references = codes "h1@x.org" ∷ codes "h2@x.org" ∷ [];
      subject = codes "Re: Plans";
      text = codes "Agreed.";
    }

abbrev pub G5 : Card
G5 = record A1 { from = ann; from_name = codes "Ann"; to = me ∷ bob ∷ []; date = Some (at 34 0); id = codes "g5@x.org"; group = Some trip; group_name = codes "Trip"; text = codes "A game" }

abbrev pub C1 : Card
C1 =
    record (card_of (codes "c1@x.org") bob) {
      from_name = codes "Bob";
      to = me ∷ [];
      date = Some (at 35 0);
      subject = codes "...";
      attachments = file (codes "multipart/encrypted") [] 62 ∷ [];
    }
