pub mod CrossingLaws
mod Cases
