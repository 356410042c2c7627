-- Laws on the definitions of this crate.
pub mod RowLaws
pub mod ColumnLaws
pub mod LongestLaws
pub mod SameLaws
