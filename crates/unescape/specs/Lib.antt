pub mod Sane
pub mod Escapes
pub mod Moves
pub mod Numbers
