pub mod Words
pub mod Refusals
pub mod Lines
