pub mod Lines
pub mod LineStep
pub mod Internal
