pub mod RowLemmas
pub mod NextLemmas
pub mod Accepted
pub mod OnLiterals
mod WorkedFiles
