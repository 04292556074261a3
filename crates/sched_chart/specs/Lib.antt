pub mod ChartText
pub mod Sheet
