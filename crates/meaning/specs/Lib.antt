pub mod Meaning
pub mod Spelled
pub mod Laws
