-- The invariants of the machine hold on, move by move.
pub mod Learned
pub mod Moves
