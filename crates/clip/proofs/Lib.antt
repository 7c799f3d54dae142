pub mod Cuts
pub mod Positions
mod Traced
