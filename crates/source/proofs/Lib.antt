pub mod Admits
pub mod Cut
pub mod Passes
pub mod Walks
