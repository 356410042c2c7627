pub mod Model
pub mod Mark
pub mod Answers
pub mod ByteOrder
pub mod Check
pub mod inner
