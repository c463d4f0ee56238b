-- The forms of the mails of a trial mailbox.
use Rattle.std.specs.Prelude.{ℕ, ◌==◌, nat_le, if◌then◌else◌, List, [], ◌∷◌}
use Rattle.box_maker.specs.declared.form.Form.{Form}
use Rattle.box_maker.specs.declared.form.Form.TheVariants.{Group, Reply, Edit, Deletion, Timer, Addition, Note}

-- the form that a number from 0 to 9 stands for
abbrev pub form_of : ℕ → Form
form_of f =
    if nat_le f 3 then Group
    else if f == 4 then Reply
    else if f == 5 then Edit
    else if f == 6 then Deletion
    else if f == 7 then Timer
    else if f == 8 then Addition
    else Note

-- whom the mail is to, beside its owner
abbrev pub others : Form → List ℕ
others Group = 1 ∷ 2 ∷ 3 ∷ []
others Reply = 1 ∷ 2 ∷ []
others Edit = 1 ∷ []
others Deletion = 1 ∷ []
others Timer = 1 ∷ []
others Addition = 1 ∷ 2 ∷ 3 ∷ []
others Note = 1 ∷ []
