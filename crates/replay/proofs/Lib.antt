pub mod Compared
pub mod Codes
pub mod Room
