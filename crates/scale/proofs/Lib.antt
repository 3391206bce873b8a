pub mod Order
pub mod Bitwise
pub mod Firm
