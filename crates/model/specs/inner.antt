-- What only the contracts of inner functions need: no rule is said here.
pub mod Search
pub mod Tests
