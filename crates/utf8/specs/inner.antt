-- What only the contracts of inner functions need: no rule is said here.
pub mod Ends
