-- The grammar of a command line: how each request is written.
use Rattle.std.specs.Prelude.{◌≡◌, ℕ, true, false, codes, List, [], ◌∷◌, ◌++◌, Option, Some, None}
use Rattle.follow.specs.declared.words.Command.{Command}
use Rattle.answers.specs.declared.question.Question.TheVariants as question
use Rattle.follow.specs.declared.words.Command.TheVariants as command
use Rattle.follow.specs.declared.words.Request.{Request}
use Rattle.follow.specs.Words.{is_value, moment_of, own_address, trial_of}

-- an option and its value: `--name=T`, where T is any text, or `--name V`
pub data IsOption (name : List ℕ) : List ℕ → List (List ℕ) → Type 0 where
  Joined : (text : List ℕ) → IsOption name text ((name ++ codes "=" ++ text) ∷ [])
  Apart : (value : List ℕ) → is_value value ≡ true → IsOption name value (name ∷ value ∷ [])

-- the own address, as `people` reads it
pub data IsMe (me : List ℕ) : List (List ℕ) → Type 0 where
  Me : (text : List ℕ) (words : List (List ℕ)) → IsOption (codes "--me") text words → own_address text ≡ Some me → IsMe me words

-- a moment
pub data IsAt (at : ℕ) : List (List ℕ) → Type 0 where
  At : (text : List ℕ) (words : List (List ℕ)) → IsOption (codes "--at") text words → moment_of text ≡ Some at → IsAt at words

-- the options, in either order
pub data AreOptions (me : List ℕ) : Option ℕ → List (List ℕ) → Type 0 where
  Alone : (words : List (List ℕ)) → IsMe me words → AreOptions me None words
  MeFirst : (at : ℕ) (us vs : List (List ℕ)) → IsMe me us → IsAt at vs → AreOptions me (Some at) (us ++ vs)
  AtFirst : (at : ℕ) (us vs : List (List ℕ)) → IsAt at us → IsMe me vs → AreOptions me (Some at) (us ++ vs)

-- a command, its name first
pub data IsCommand : Command → List (List ℕ) → Type 0 where
  ListChats : IsCommand (command.Ask question.List) (codes "list" ∷ [])
  ListContacts : IsCommand (command.Ask question.Contacts) (codes "contacts" ∷ [])
  ShowChat : (key : List ℕ) → is_value key ≡ true → IsCommand (command.Ask (question.Chat key)) (codes "chat" ∷ key ∷ [])
  ShowUpdates : (id : List ℕ) → is_value id ≡ true → IsCommand (command.Ask (question.Updates id false)) (codes "updates" ∷ id ∷ [])
  InfoFirst : (id : List ℕ) → is_value id ≡ true → IsCommand (command.Ask (question.Updates id true)) (codes "updates" ∷ codes "--info" ∷ id ∷ [])
  InfoLast : (id : List ℕ) → is_value id ≡ true → IsCommand (command.Ask (question.Updates id true)) (codes "updates" ∷ id ∷ codes "--info" ∷ [])
  MakeTrial : (text : List ℕ) (number : ℕ) → is_value text ≡ true → trial_of text ≡ Some number → IsCommand (command.Trial number) (codes "trial" ∷ text ∷ [])

-- a request: the options, and a command after them
pub data IsRequest : Request → List (List ℕ) → Type 0 where
  Line : (r : Request) (us vs : List (List ℕ)) → AreOptions r.me r.at us → IsCommand r.command vs → IsRequest r (us ++ vs)

-- words that are written as no request
abbrev pub IsNoRequest : List (List ℕ) → Type 0
IsNoRequest words = (r : Request) → ¬ IsRequest r words
