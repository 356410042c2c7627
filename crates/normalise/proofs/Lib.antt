-- Laws on the definitions of this crate, for its proofs and those of the crates above it.
pub mod FitLaws
pub mod Measuring
pub mod HeadLaws
pub mod SpaceRunLaws
pub mod StepLaws
pub mod SpaceLaws
pub mod RunLaws
pub mod FinishLaws
pub mod StandLaws
pub mod NormalLaws
