pub mod Ranges
pub mod Columns
pub mod Reading
pub mod JsonValue
pub mod JsonLine
