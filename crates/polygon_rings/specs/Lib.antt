pub mod WrittenRings
pub mod Internal
