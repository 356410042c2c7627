-- What only the inner functions' contracts need.
pub mod Feeding
pub mod Words
