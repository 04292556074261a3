pub mod Words
pub mod GeneratedSet
pub mod GeneratedNumbers
pub mod GeneratedWork
pub mod Laws
pub mod NextReleases
