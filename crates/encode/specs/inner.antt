-- What only the inner functions' contracts need.
pub mod Passes
