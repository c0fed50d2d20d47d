pub mod Runs
pub mod Texts
pub mod Settled
pub mod Sounds
