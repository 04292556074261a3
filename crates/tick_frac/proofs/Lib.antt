pub mod Numbers
pub mod Multiples
pub mod Fractions
