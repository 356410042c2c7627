-- Definitions that only the contracts of inner functions need.
pub mod Most
pub mod Reach
pub mod Search
pub mod Places
