pub mod Enough
pub mod Handing
pub mod Mirrors
pub mod Lawfully
