-- Laws on the definitions of this crate, for its proofs and those of the crates above it.
pub mod BitLaws
pub mod AdjacencyLaws
pub mod SpanLaws
pub mod StartLaws
pub mod NextLaws
pub mod ShownLaws
pub mod CutLaws
pub mod UnitLaws
pub mod GroupLaws
pub mod CrossingLaws
pub mod NotingLaws
pub mod RawLaws
pub mod DerivedLaws
