pub mod Layout
pub mod Numbers
pub mod Prepare
pub mod inner
