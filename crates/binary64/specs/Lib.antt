pub mod Compare
pub mod Interpolation
pub mod Scaled
pub mod ExactCrossing
pub mod Lists
pub mod Bytes
pub mod Slices
pub mod Internal
