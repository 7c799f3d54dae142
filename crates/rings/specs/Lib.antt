pub mod Rectangle
pub mod Bridge
pub mod Representable
pub mod LentRings
pub mod Internal
