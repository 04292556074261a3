pub mod Reply
pub mod TaskLines
pub mod RowLines
pub mod Refusal
pub mod Reading
pub mod Stop
