-- Laws on the definitions of this crate, for its proofs and those of the crates above it.
pub mod PassLaws
pub mod CheckedLaws
pub mod ItemLaws
pub mod WalkLaws
pub mod NormalLaws
pub mod PartLaws
pub mod SteppedLaws
pub mod BytesLaws
pub mod OutcomeLaws
pub mod EncodeLaws
