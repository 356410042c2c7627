-- Definitions that only the contracts of inner functions need.
pub mod Notes
pub mod Around
pub mod Crossed
pub mod Next
pub mod Path
pub mod Read
