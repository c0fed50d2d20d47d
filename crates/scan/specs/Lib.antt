pub mod Classes
pub mod Prefix
