pub mod Kinds
pub mod Units
pub mod Adjacency
pub mod Derived
pub mod inner
