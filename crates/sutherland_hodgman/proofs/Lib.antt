mod Cases
mod Finishing
mod GrowthLaws
mod LastPass
pub mod Offered
mod OriginLaws
mod OriginStages
mod Positions
mod Promises
mod Stages
mod Turns
