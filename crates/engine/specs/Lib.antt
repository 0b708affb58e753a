pub mod Lists
pub mod Greatest
pub mod Simulation
pub mod Index
-- inner
pub mod Loaded
pub mod Masks
pub mod Matched
pub mod Batches
pub mod Sweeping
pub mod Rounds
pub mod Rows
pub mod Starting
pub mod Places
pub mod Sides
pub mod MarkedSet
pub mod Worklist
