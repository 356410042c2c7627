pub mod Stretches
pub mod inner
