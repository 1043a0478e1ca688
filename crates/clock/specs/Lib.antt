pub mod Causal
pub mod Clock
pub mod Laws
pub mod Order
