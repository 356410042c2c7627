-- Definitions that only the contracts of inner functions need.
pub mod Rows
