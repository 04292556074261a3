pub mod Names
pub mod Numbered
pub mod Levels
pub mod Greatest
pub mod Scaled
pub mod Causes
