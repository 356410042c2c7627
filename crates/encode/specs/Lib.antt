pub mod Parts
pub mod Encode
pub mod inner
