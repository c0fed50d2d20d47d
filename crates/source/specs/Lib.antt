pub mod Admission
pub mod Places
pub mod Sources
pub mod Cursors
