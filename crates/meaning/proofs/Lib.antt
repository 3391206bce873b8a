pub mod Recurrence
pub mod Causal
pub mod Carrying
pub mod Spelling
