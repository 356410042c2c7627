-- Definitions that only the contracts of inner functions need.
pub mod Seek
pub mod Strips
pub mod Walk
