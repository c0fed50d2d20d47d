pub mod Rolling
pub mod Meant
pub mod Sifting
