pub mod Listings
pub mod Samples
pub mod Growing
