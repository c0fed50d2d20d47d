pub mod Causes
pub mod Told
pub mod Strings
pub mod Ordinals
