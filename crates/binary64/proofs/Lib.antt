mod Arithmetic
pub mod AtMost256
mod Errors
pub mod Booleans
pub mod Comparisons
pub mod Cut
pub mod CrossingError
pub mod Fill
pub mod KeyOrder
pub mod Lines
pub mod Order
pub mod Patterns
mod Rounding
pub mod Value
pub mod Widths
pub mod FloatOrder
