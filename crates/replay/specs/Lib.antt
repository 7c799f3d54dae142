pub mod Calls
pub mod Code
pub mod Lent
