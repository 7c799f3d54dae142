pub mod Segments
pub mod Grid
pub mod Internal
