pub mod Turns
pub mod Ended
pub mod Escapes
