-- Laws of the definitions, and rows that compute.
pub mod Elements
pub mod MailLaws
pub mod OneMail
pub mod TurnLaws
pub mod ChatLaws
pub mod RuleLaws
pub mod UidLaws
pub mod StillLaws
pub mod ActLaws
pub mod CountLaws
pub mod PeopleLaws
pub mod UpdateLaws
pub mod ReactionLaws
pub mod MemberLaws
pub mod PresentLaws
pub mod ListLaws
pub mod FrameLaws
pub mod StateLaws
pub mod CivilLaws
pub mod AnswerLaws
mod Worked
mod Edges
