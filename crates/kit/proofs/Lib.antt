pub mod ChainLaws
pub mod ContentLemmas
mod DigitLemmas
pub mod FrontLaws
pub mod LetterLemmas
pub mod LineLemmas
mod OptionCases
pub mod RawLines
mod Rows
pub mod Utf8Lemmas
