-- Laws on the definitions of this crate, for its proofs and those of the crates above it.
pub mod GivenLaws
pub mod ChoiceLaws
pub mod Bounded
pub mod WhiteLaws
pub mod BlockLaws
pub mod ReachLaws
pub mod EndLaws
pub mod AheadLaws
pub mod FirstLaws
pub mod SearchLaws
pub mod CutLaws
pub mod RangeLaws
pub mod PassLaws
pub mod FinishLaws
pub mod FragmentLaws
