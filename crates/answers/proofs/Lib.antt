-- Lemmas of this crate.
pub mod AnswerCosts
pub mod ChatAnswers
pub mod KeyLaws
pub mod NamedChats
pub mod UpdateAnswers
