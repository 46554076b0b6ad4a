pub mod Format
pub mod Json
pub mod Motion
pub mod Text
