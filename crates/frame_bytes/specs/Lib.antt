pub mod Frame
pub mod Room
pub mod Encoding
pub mod Internal
pub mod Accepted
