pub mod Flags
pub mod Version
