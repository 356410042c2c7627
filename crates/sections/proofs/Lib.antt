-- Laws on the definitions of this crate, for its proofs and those of the crates above it.
pub mod SeekLaws
pub mod LengthLaws
pub mod StripLaws
pub mod InsideLaws
pub mod TakenLaws
pub mod SectionLaws
pub mod PartLaws
pub mod StepLaws
