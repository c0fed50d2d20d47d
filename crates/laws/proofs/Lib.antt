pub mod Coming
pub mod Going
