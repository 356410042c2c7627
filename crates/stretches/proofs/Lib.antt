-- Laws on the definitions of this crate, for its proofs and those of the crates above it.
pub mod WriterLaws
pub mod StretchLaws
pub mod RepeatLaws
pub mod PartLaws
pub mod ModelLaws
pub mod DerivedLaws
