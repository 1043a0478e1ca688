pub mod Cleared
pub mod Told
