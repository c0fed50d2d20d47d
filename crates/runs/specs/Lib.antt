pub mod Hands
pub mod Coming
pub mod Opens
pub mod Orders
pub mod Laws
