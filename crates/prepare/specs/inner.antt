-- Definitions that only the contracts of inner functions need.
pub mod Derive
pub mod Pairs
pub mod Walk
pub mod Read
