-- The lines of a chat above its rows.
use Rattle.std.proofs.Common.{◌≡◌, ℕ, List, [], ◌++◌, flat_map, ap, append_assoc, append-nil, refl, rules}
use Rattle.mailbox_model.specs.declared.page.ChatPage.{ChatPage}
use Rattle.mailbox_model.specs.Printed.{chat_text, row_text}

-- four lines that are appended one after the other, where n is the end of a line
pub in_turn : (old one two three four a key b name c members d timer n : List ℕ)
    → one ≡ old ++ (a ++ key ++ n) → two ≡ one ++ (b ++ name ++ n) → three ≡ two ++ (c ++ members ++ n)
    → four ≡ three ++ (d ++ (timer ++ n))
    → four ≡ old ++ (a ++ key ++ n ++ b ++ name ++ n ++ c ++ members ++ n ++ d ++ timer ++ n ++ [])
in_turn old one two three four a key b name c members d timer n h1 h2 h3 h4 =
    rw (h4, h3, h2, h1) (simp (append_assoc, append-nil) refl)

before_rows : (head rows : List ℕ) → (head ++ []) ++ rows ≡ head ++ rows
before_rows head rows = ap (λ bytes. bytes ++ rows) (append-nil head)

-- the rows are after them
pub head_and_rows : (page : ChatPage) → chat_text (record page { rows = [] }) ++ flat_map row_text page.rows ≡ chat_text page
head_and_rows page = search (rules, before_rows)
