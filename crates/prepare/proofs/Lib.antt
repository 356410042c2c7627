-- Laws on what is derived of a model, and how it is laid out.
pub mod WalkLaws
pub mod LayoutLaws
pub mod PairLaws
pub mod PutLaws
pub mod PrepareLaws
pub mod ReadLaws
pub mod PreparedLaws
