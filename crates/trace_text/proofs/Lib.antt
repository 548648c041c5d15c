pub mod Decimal
pub mod Powers
pub mod Printed
