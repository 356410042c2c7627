pub mod Decode
pub mod inner
