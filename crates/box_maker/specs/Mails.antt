-- The lines of the mails of a trial mailbox.
use Rattle.std.specs.Prelude.{ℕ, ◌+◌, ◌/◌, ◌%◌, ◌==◌, if◌then◌else◌, List, [], ◌∷◌, ◌++◌, codes, flat_map}
use Rattle.std.specs.Fmt.{decimal}
use Rattle.box_maker.specs.declared.draws.Draws.{Draws}
use Rattle.box_maker.specs.declared.form.Form.{Form}
use Rattle.box_maker.specs.declared.form.Form.TheVariants.{Group, Reply, Edit, Deletion, Timer, Addition, Note}
use Rattle.box_maker.specs.Forms.{others}

-- the address of a person
abbrev pub person : ℕ → List ℕ
person k = codes "p" ++ decimal k ++ codes "@box.example"

-- the address of who sends a mail, where 0 stands for the owner of the mailbox
unfoldable pub sender : List ℕ → ℕ → List ℕ
sender me s = if s == 0 then me else person s

-- the separator, and who sends the mail
unfoldable pub from_lines : List ℕ → ℕ → List ℕ
from_lines me s = codes "From -\n" ++ codes "From: " ++ sender me s ++ codes "\n"

-- the own address, and those of others, joined by a comma and a space
unfoldable pub to_line : List ℕ → Form → List ℕ
to_line me form = codes "To: " ++ me ++ flat_map (λ k. codes ", " ++ person k) (others form) ++ codes "\n"

-- the digits of a number below 100, where 48 is the digit 0
unfoldable pub two_digits : ℕ → List ℕ
two_digits n = (48 + n / 10) ∷ (48 + n % 10) ∷ []

unfoldable pub date_line : ℕ → ℕ → ℕ → List ℕ
date_line day hour minute =
    codes "Date: " ++ decimal day ++ codes " Jan 2024 " ++ two_digits hour ++ codes ":" ++ two_digits minute ++ codes ":00 +0000\n"

-- a field that names a mail by its message id
unfoldable pub id_line : List ℕ → ℕ → List ℕ
id_line name i = name ++ codes ": <t" ++ decimal i ++ codes "@box.example>\n"

-- the field that marks the mails of chat programs
unfoldable pub chat_line : List ℕ
chat_line = codes "Chat-Version: 1.0\n"

unfoldable pub group_lines : ℕ → List ℕ
group_lines k =
    chat_line ++ codes "Chat-Group-ID: trialgroup0" ++ decimal k ++ codes "\n"
    ++ codes "Chat-Group-Name: Group " ++ decimal k ++ codes "\n"

unfoldable pub added_line : ℕ → List ℕ
added_line k = codes "Chat-Group-Member-Added: " ++ person k ++ codes "\n"

unfoldable pub timer_line : List ℕ
timer_line = codes "Ephemeral-Timer: 60\n"

unfoldable pub subject_line : ℕ → List ℕ
subject_line i = codes "Subject: Note " ++ decimal i ++ codes "\n"

-- the further header lines of mail i, by its form
unfoldable pub form_lines : Form → ℕ → Draws → List ℕ
form_lines Group i d = group_lines d.group
form_lines Reply i d = id_line (codes "In-Reply-To") d.target
form_lines Edit i d = chat_line ++ id_line (codes "Chat-Edit") d.target
form_lines Deletion i d = chat_line ++ id_line (codes "Chat-Delete") d.target
form_lines Timer i d = chat_line ++ timer_line
form_lines Addition i d = group_lines d.group ++ added_line d.group
form_lines Note i d = subject_line i

-- an empty line, the text of mail i, and an empty line
unfoldable pub text_lines : ℕ → List ℕ
text_lines i = codes "\n" ++ codes "text " ++ decimal i ++ codes "\n" ++ codes "\n"

-- mail i, from its separator to the empty line that ends it
unfoldable pub mail : List ℕ → ℕ → Draws → List ℕ
mail me i d =
    from_lines me d.sender
    ++ to_line me d.form
    ++ date_line d.day d.hour d.minute
    ++ id_line (codes "Message-ID") i
    ++ form_lines d.form i d
    ++ text_lines i
