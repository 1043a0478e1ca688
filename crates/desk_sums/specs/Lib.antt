pub mod Laws
pub mod Rows
pub mod Seats
pub mod Sums
