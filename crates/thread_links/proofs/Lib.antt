-- Lemmas.
pub mod WorkLaws
pub mod SeedLaws
pub mod Working
pub mod Places
pub mod StayLaws
pub mod KeptLaws
pub mod Citing
pub mod MapLaws
pub mod CitedLaws
pub mod Turns
pub mod ChangeLaws
pub mod MailLaws
