pub mod Safe
pub mod Fragments
pub mod inner
