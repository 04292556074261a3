pub mod Slots
pub mod RunBegins
