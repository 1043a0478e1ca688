pub mod Broken
pub mod Edges
pub mod Laws
pub mod Orders
pub mod Runs
pub mod Wrong
