-- Which question asks for the list of chats.
use Rattle.std.specs.Prelude.{Bool, true, false}
use Rattle.mailbox_model.specs.Answers.{Question}
use Rattle.mailbox_model.specs.Answers.Question.{AllChats, OneChat, AllContacts, AllUpdates, InfoUpdates}

abbrev pub is_of_list : Question → Bool
is_of_list AllChats = true
is_of_list (OneChat key) = false
is_of_list AllContacts = false
is_of_list (AllUpdates id) = false
is_of_list (InfoUpdates id) = false
