pub mod Choice
pub mod Quote
pub mod Answer
pub mod Show
pub mod Part
pub mod Cheapest
pub mod Terms
pub mod Listing
-- inner
pub mod Steps
pub mod Masked
pub mod Tries
