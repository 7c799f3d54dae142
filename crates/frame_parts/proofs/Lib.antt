pub mod CutParts
pub mod Cutting
