pub mod CuttingLines
pub mod CrossingError
