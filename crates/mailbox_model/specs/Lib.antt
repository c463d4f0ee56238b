-- What public clauses cite.
pub mod Lists
pub mod Mailbox
pub mod Present
pub mod Turns
pub mod Chats
pub mod Rows
pub mod Rosters
pub mod Contacts
pub mod Names
pub mod Pages
pub mod Bodies
pub mod Frames
pub mod ChatList
pub mod States
pub mod Times
pub mod Printed
pub mod Answers
