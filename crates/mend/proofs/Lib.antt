pub mod Laws
pub mod Offered
mod Answers
mod Walks
