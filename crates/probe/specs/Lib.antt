pub mod Edges
pub mod Numbers
pub mod Passes
pub mod Reader
