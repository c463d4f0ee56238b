-- Words at the edges of the grammar, read.
use Rattle.std.proofs.Common.{◌≡◌, ℕ, refl, true, false, List, [], ◌∷◌, Option, Some, None}
use Rattle.std.specs.Prelude.{codes}
use Rattle.follow.specs.declared.words.Command.{Command}
use Rattle.answers.specs.declared.question.Question.TheVariants as question
use Rattle.follow.specs.declared.words.Command.TheVariants as command
use Rattle.follow.specs.declared.words.Request.{Request}
use Rattle.follow.specs.Words.{request}

abbrev me : List ℕ
me = codes "me@x.org"

-- the request of a command, with a moment or without
abbrev request_of : Option ℕ → Command → Option Request
request_of at c = Some (record { me = me; at = at; command = c })

-- the request of words after the own address
abbrev read : List (List ℕ) → Option Request
read words = request (codes "--me" ∷ me ∷ words)

-- options in either order, as one word or as two
at_after : read (codes "--at" ∷ codes "1714564800" ∷ codes "list" ∷ []) ≡ request_of (Some 1714564800) (command.Ask question.List)
at_after = refl

at_first : request (codes "--at=1714564800" ∷ codes "--me" ∷ me ∷ codes "list" ∷ []) ≡ request_of (Some 1714564800) (command.Ask question.List)
at_first = refl

no_at : request (codes "--me=me@x.org" ∷ codes "list" ∷ []) ≡ request_of None (command.Ask question.List)
no_at = refl

at_after_the_command : read (codes "list" ∷ codes "--at=0" ∷ []) ≡ None
at_after_the_command = refl

-- the own address is that of one person and no other
named_person : request (codes "--me" ∷ codes "\"Me, too\" (at home) <ME@X.org>" ∷ codes "list" ∷ []) ≡ request_of None (command.Ask question.List)
named_person = refl

two_persons : request (codes "--me" ∷ codes "me@x.org, you@x.org" ∷ codes "list" ∷ []) ≡ None
two_persons = refl

nobody : request (codes "--me" ∷ codes "nobody" ∷ codes "list" ∷ []) ≡ None
nobody = refl

-- a name twice, and a name without a value
me_twice : read (codes "--me=me@x.org" ∷ codes "list" ∷ []) ≡ None
me_twice = refl

at_twice : read (codes "--at=1" ∷ codes "--at=2" ∷ codes "list" ∷ []) ≡ None
at_twice = refl

me_empty : request (codes "--me=" ∷ codes "list" ∷ []) ≡ None
me_empty = refl

me_last : request (codes "--me" ∷ []) ≡ None
me_last = refl

no_me : request (codes "--at=1" ∷ codes "list" ∷ []) ≡ None
no_me = refl

-- `-` alone is a value, and so is a word of no bytes
dash : read (codes "chat" ∷ codes "-" ∷ []) ≡ request_of None (command.Ask (question.Chat (codes "-")))
dash = refl

empty : read (codes "chat" ∷ [] ∷ []) ≡ request_of None (command.Ask (question.Chat []))
empty = refl

dash_and_more : read (codes "chat" ∷ codes "-x" ∷ []) ≡ None
dash_and_more = refl

two_dashes : read (codes "--" ∷ codes "list" ∷ []) ≡ None
two_dashes = refl

-- a moment has 1 to 12 digits, and lies before the year 10000
twelve_digits : read (codes "--at=000000000007" ∷ codes "list" ∷ []) ≡ request_of (Some 7) (command.Ask question.List)
twelve_digits = refl

thirteen_digits : read (codes "--at=0000000000007" ∷ codes "list" ∷ []) ≡ None
thirteen_digits = refl

last_moment : read (codes "--at=253402300799" ∷ codes "list" ∷ []) ≡ request_of (Some 253402300799) (command.Ask question.List)
last_moment = refl

past_the_last_moment : read (codes "--at=253402300800" ∷ codes "list" ∷ []) ≡ None
past_the_last_moment = refl

signed : read (codes "--at=+7" ∷ codes "list" ∷ []) ≡ None
signed = refl

no_digits : read (codes "--at=" ∷ codes "list" ∷ []) ≡ None
no_digits = refl

-- each command has its own values, and nothing after them
contacts : read (codes "contacts" ∷ []) ≡ request_of None (command.Ask question.Contacts)
contacts = refl

chat_alone : read (codes "chat" ∷ []) ≡ None
chat_alone = refl

unknown : read (codes "lists" ∷ []) ≡ None
unknown = refl

list_and_more : read (codes "list" ∷ codes "list" ∷ []) ≡ None
list_and_more = refl

updates : read (codes "updates" ∷ codes "a1@x.org" ∷ []) ≡ request_of None (command.Ask (question.Updates (codes "a1@x.org") false))
updates = refl

info_after : read (codes "updates" ∷ codes "a1@x.org" ∷ codes "--info" ∷ []) ≡ request_of None (command.Ask (question.Updates (codes "a1@x.org") true))
info_after = refl

info_before : read (codes "updates" ∷ codes "--info" ∷ codes "a1@x.org" ∷ []) ≡ request_of None (command.Ask (question.Updates (codes "a1@x.org") true))
info_before = refl

two_ids : read (codes "updates" ∷ codes "a1@x.org" ∷ codes "a2@x.org" ∷ []) ≡ None
two_ids = refl

info_twice : read (codes "updates" ∷ codes "--info" ∷ codes "--info" ∷ []) ≡ None
info_twice = refl

info_twice_and_an_id : read (codes "updates" ∷ codes "--info" ∷ codes "a1@x.org" ∷ codes "--info" ∷ []) ≡ None
info_twice_and_an_id = refl

info_of_no_updates : read (codes "list" ∷ codes "--info" ∷ []) ≡ None
info_of_no_updates = refl

-- a number of 1 to 20 digits, below 2^64
trial : read (codes "trial" ∷ codes "7" ∷ []) ≡ request_of None (command.Trial 7)
trial = refl

last_trial : read (codes "trial" ∷ codes "18446744073709551615" ∷ []) ≡ request_of None (command.Trial 18446744073709551615)
last_trial = refl

past_the_last_trial : read (codes "trial" ∷ codes "18446744073709551616" ∷ []) ≡ None
past_the_last_trial = refl

zeros : read (codes "trial" ∷ codes "00000000000000000007" ∷ []) ≡ request_of None (command.Trial 7)
zeros = refl

twenty_one_digits : read (codes "trial" ∷ codes "000000000000000000007" ∷ []) ≡ None
twenty_one_digits = refl
