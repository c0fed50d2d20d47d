mod Digits
pub mod Feeds
