pub mod Lists
pub mod Chars
pub mod WhiteSpace
pub mod inner
