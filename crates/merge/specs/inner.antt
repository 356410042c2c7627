-- What only the inner functions' contracts need.
pub mod Laid
pub mod Turns
pub mod Keys
