pub mod Left
pub mod Width
pub mod Fields
pub mod Reads
pub mod Rows
