pub mod Frame
pub mod Lending
pub mod Opening
pub mod Arrays
