pub mod Ranges
pub mod Operands
