pub mod Filled
pub mod Lines
pub mod ChartedMode
pub mod WorkedCharts
pub mod RunTicks
