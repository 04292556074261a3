pub mod Reply
pub mod Headline
pub mod Complete
pub mod RightText
pub mod Tested
pub mod Promises
