pub mod Start
pub mod Merge
pub mod inner
