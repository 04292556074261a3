pub mod Belong
