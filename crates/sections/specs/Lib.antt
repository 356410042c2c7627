pub mod Beginnings
pub mod Matches
pub mod Sections
pub mod SecondList
pub mod inner
