pub mod JudgedText
pub mod OnTrace
