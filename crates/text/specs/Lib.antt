pub mod Tokens
pub mod Scanning
pub mod Grammar
pub mod Texts
pub mod Strips
pub mod Begun
pub mod Readers
