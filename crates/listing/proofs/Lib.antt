pub mod Laid
pub mod Lengths
