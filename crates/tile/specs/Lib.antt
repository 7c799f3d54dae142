pub mod Bounds
pub mod Magnitude
pub mod Ring
pub mod Internal
