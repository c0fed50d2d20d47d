pub mod Sources
pub mod Rolled
pub mod Sifted
pub mod SessionSources
pub mod Lending
pub mod Layers
pub mod Literals
