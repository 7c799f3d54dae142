mod Calls
pub mod Offered
