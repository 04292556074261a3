pub mod Rows
pub mod Tracks
pub mod WorkFile
pub mod Reading
