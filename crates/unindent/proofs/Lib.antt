pub mod Split
pub mod Shared
pub mod Turns
