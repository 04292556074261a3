pub mod Lists
mod Steps
