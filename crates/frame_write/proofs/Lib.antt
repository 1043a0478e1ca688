pub mod Asked
pub mod Writes
