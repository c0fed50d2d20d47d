pub mod Sessions
pub mod Sized
pub mod Calls
