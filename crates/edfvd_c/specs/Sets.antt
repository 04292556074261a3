-- What the clauses of `src/sets` cite.
pub mod Given
pub mod Named
pub mod Refused
pub mod Tested
pub mod DemandTested
pub mod Growth
pub mod Margins
pub mod Parted
