pub mod Matches
pub mod Trees
pub mod Leaves
pub mod Firsts
pub mod Keep
pub mod Climbs
pub mod CallerLemmas
