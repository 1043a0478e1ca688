pub mod Cleared
pub mod Keepers
