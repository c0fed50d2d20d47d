pub mod Quotes
pub mod Cooked
pub mod Fedby
pub mod Texts
