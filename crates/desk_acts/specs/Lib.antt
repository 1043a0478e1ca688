pub mod Change
pub mod Own
