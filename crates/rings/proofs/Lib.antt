pub mod Closing
pub mod LentRings
pub mod Rectangles
pub mod Walks
