pub mod Copies
pub mod Desk
pub mod Published
