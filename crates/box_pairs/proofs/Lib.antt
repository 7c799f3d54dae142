mod Cases
mod FloatCrossing
mod Crossing
mod EdgeLaws
mod First
mod Issues
mod Loops
pub mod Offered
mod Runs
mod Sweep
