pub mod SameSet
pub mod FirstAllowed
