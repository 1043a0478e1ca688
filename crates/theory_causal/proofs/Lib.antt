pub mod Invariants
pub mod Run
pub mod Example
