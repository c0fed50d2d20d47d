pub mod Rows
pub mod Bad
