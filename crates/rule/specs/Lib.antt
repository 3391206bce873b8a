pub mod Refusals
pub mod Reasons
pub mod Rows
pub mod Symbols
pub mod Fit
pub mod Faults
