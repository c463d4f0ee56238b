pub mod Growing
pub mod FrameLaws
pub mod ReadingLaws
pub mod CutLaws
pub mod SpellingLaws
pub mod OldGroups
pub mod Appended
pub mod JointLaw
pub mod ValidLaws
pub mod Filled
pub mod FirstFrame
pub mod Steps
pub mod Opened
pub mod Waiting
mod Rows
