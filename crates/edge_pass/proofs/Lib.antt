pub mod LeavingOff
pub mod OriginWalking
pub mod PassGrowth
mod Verdicts
mod Walking
