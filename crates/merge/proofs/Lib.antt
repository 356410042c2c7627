-- Laws on the definitions of this crate, for its proofs and those of the crates above it.
pub mod NextLaws
pub mod MergedLaws
pub mod PieceLaws
pub mod Laying
pub mod StartLaws
pub mod WalkLaws
pub mod ByteLaws
pub mod TurnLaws
pub mod FrontLaws
pub mod KeyLaws
pub mod ModelLaws
