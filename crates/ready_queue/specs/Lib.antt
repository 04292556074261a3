pub mod Items
pub mod Tree
pub mod Representation
