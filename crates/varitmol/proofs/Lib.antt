-- Laws on the numbers that stand for steps and metaspace.
pub mod NumberLaws
