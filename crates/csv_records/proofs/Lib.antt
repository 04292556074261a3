pub mod RecordLemmas
pub mod WidthLemmas
pub mod RowLemmas
pub mod Taking
pub mod WordLemmas
