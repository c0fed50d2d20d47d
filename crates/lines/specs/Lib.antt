pub mod Levels
pub mod Reaches
