-- The words of the command line: options, and a command after them.
use Rattle.std.specs.Prelude.{ℕ, Bool, true, false, ◌||◌, not, nat_eq, nat_le, nat_lt, ◌^◌, if◌then◌else◌, bytes_eq, codes, List, [], ◌∷◌, Option, Some, None, option_map}
use Rattle.std.specs.List.{starts_with}
use Rattle.kit.specs.Cuts.{strip_prefix}
use Rattle.kit.specs.Moments.{last_moment}
use Rattle.kit.specs.Options.{◌>>=◌}
use Rattle.mail_address.specs.declared.person.Person.{Person}
use Rattle.mail_address.specs.People.{people}
use Rattle.kit.specs.Numbers.{number}
use Rattle.follow.specs.declared.words.Command.{Command}
use Rattle.answers.specs.declared.question.Question.TheVariants as question
use Rattle.follow.specs.declared.words.Command.TheVariants as command
use Rattle.follow.specs.declared.words.Request.{Request}

-- a word that does not begin with - , or - alone
abbrev pub is_value : List ℕ → Bool
is_value word = not (starts_with nat_eq word (codes "-")) || bytes_eq word (codes "-")

-- a value that is first, and the words after it
abbrev pub value_at : List (List ℕ) → Option (List ℕ × List (List ℕ))
value_at [] = None
value_at (word ∷ words) = if is_value word then Some (word, words) else None

-- the value that one word gives to an option, as `--name=T`
abbrev pub joined : List ℕ → List ℕ → Option (List ℕ)
joined name word = strip_prefix word name >>= λ rest. strip_prefix rest (codes "=")

-- the value of an option that is first, as `--name=T` or as `--name V`, and the words after it
abbrev pub option_at : List ℕ → List (List ℕ) → Option (List ℕ × List (List ℕ))
option_at name [] = None
option_at name (word ∷ words) =
    if bytes_eq word name then value_at words else option_map (λ value. (value, words)) (joined name word)

-- what the options say, and the words after them
pub record Line : Type 0 where
  pub me : List ℕ
  pub at : Option (List ℕ)
  pub rest : List (List ℕ)

abbrev pub line : List ℕ → Option (List ℕ) → List (List ℕ) → Line
line me at rest = record { me = me; at = at; rest = rest }

-- `--at` follows `--me`, or is missing
abbrev pub me_first : List ℕ × List (List ℕ) → Option (List ℕ × List (List ℕ)) → Line
me_first me None = line me.0 None me.1
me_first me (Some at) = line me.0 (Some at.0) at.1

-- `--at` is first, or not
abbrev pub line_from : List (List ℕ) → Option (List ℕ × List (List ℕ)) → Option Line
line_from words (Some at) = option_map (λ me. line me.0 (Some at.0) me.1) (option_at (codes "--me") at.1)
line_from words None = option_map (λ me. me_first me (option_at (codes "--at") me.1)) (option_at (codes "--me") words)

abbrev pub line_of : List (List ℕ) → Option Line
line_of words = line_from words (option_at (codes "--at") words)

-- a moment from 1970 to 9999, of 1 to 12 digits
abbrev pub moment_of : List ℕ → Option ℕ
moment_of word = number 1 12 word >>= λ n. if nat_le n last_moment then Some n else None

abbrev pub moment_if_given : Option (List ℕ) → Option (Option ℕ)
moment_if_given None = Some None
moment_if_given (Some word) = option_map Some (moment_of word)

-- the number of a trial, of 1 to 20 digits
abbrev pub trial_of : List ℕ → Option ℕ
trial_of word = number 1 20 word >>= λ n. if nat_lt n (2 ^ 64) then Some n else None

-- a command of its name alone
abbrev pub of_name : List ℕ → Option Command
of_name name =
    if bytes_eq name (codes "list") then Some (command.Ask question.List)
    else if bytes_eq name (codes "contacts") then Some (command.Ask question.Contacts)
    else None

-- a command of its name and a value
abbrev pub of_value : List ℕ → List ℕ → Option Command
of_value name value =
    if bytes_eq name (codes "chat") then Some (command.Ask (question.Chat value))
    else if bytes_eq name (codes "updates") then Some (command.Ask (question.Updates value false))
    else if bytes_eq name (codes "trial") then option_map command.Trial (trial_of value)
    else None

-- `updates` with `--info` on either side of its value
abbrev pub with_info : List ℕ → Option Command
with_info id = if is_value id then Some (command.Ask (question.Updates id true)) else None

abbrev pub of_info : List ℕ → List ℕ → Option Command
of_info a b =
    if bytes_eq a (codes "--info") then with_info b
    else if bytes_eq b (codes "--info") then with_info a
    else None

abbrev pub command_of : List (List ℕ) → Option Command
command_of (name ∷ []) = of_name name
command_of (name ∷ value ∷ []) = if is_value value then of_value name value else None
command_of (name ∷ a ∷ b ∷ []) = if bytes_eq name (codes "updates") then of_info a b else None
command_of _ = None

-- the address of the person, if there is one and no other
abbrev pub sole : List Person → Option (List ℕ)
sole (person ∷ []) = Some person.addr
sole _ = None

abbrev pub own_address : List ℕ → Option (List ℕ)
own_address word = sole (people word)

-- what the words ask for; none where they are no command
abbrev pub request : List (List ℕ) → Option Request
request words =
    line_of words >>= λ l. moment_if_given l.at >>= λ at. own_address l.me >>= λ me. command_of l.rest >>= λ c.
    Some (record { me = me; at = at; command = c })
