pub mod Moves
pub mod Going
