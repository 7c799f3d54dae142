pub mod Cross
pub mod Pairs
pub mod Issue
pub mod Internal
pub mod Edges
