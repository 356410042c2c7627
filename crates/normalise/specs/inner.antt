-- What only the contracts of inner functions need: no rule is said here.
pub mod Fit
pub mod Heads
pub mod Run
