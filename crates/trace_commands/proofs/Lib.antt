pub mod GoodTrace
pub mod JudgedText
