pub mod Part
pub mod Internal
