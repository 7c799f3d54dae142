pub mod Rings
pub mod WholeNumbers
