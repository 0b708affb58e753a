pub mod Offered
pub mod Search
pub mod Index
pub mod Enter
pub mod Ask
pub mod Join
pub mod Components
pub mod Part
-- inner
pub mod Books
pub mod Batches
pub mod Candidates
pub mod Joining
pub mod Stepping
pub mod Entering
pub mod Asking
