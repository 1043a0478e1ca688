pub mod Link
pub mod Runs
pub mod Promise
pub mod InFull
pub mod Case
