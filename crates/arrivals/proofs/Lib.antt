pub mod Slots
pub mod CallerLemmas
