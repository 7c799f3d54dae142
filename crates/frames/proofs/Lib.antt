pub mod Counts
pub mod Entries
pub mod Listings
pub mod Sizes
pub mod Worked
