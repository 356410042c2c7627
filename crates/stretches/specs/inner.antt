-- What only the inner functions' contracts need.
pub mod Writers
pub mod Tables
pub mod Parts
pub mod Encoders
