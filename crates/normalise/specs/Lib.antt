pub mod Steps
pub mod Spaces
pub mod Normalise
pub mod inner
