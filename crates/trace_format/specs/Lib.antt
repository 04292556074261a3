pub mod Events
pub mod TraceFile
pub mod Reading
pub mod Writable
pub mod Packing
