-- Laws on what is derived of the sorted tables.
pub mod IndexLaws
pub mod PairLaws
