pub mod Cases
pub mod Toys
pub mod Table
pub mod Settled
pub mod UnitsKeepIds
pub mod Needed
