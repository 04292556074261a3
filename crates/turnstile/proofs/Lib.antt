pub mod Lists
pub mod Histories
pub mod Stepping
pub mod Serving
pub mod Seating
