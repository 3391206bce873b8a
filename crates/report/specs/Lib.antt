pub mod Lines
pub mod Excerpts
pub mod Reports
pub mod Told
