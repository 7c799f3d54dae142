pub mod Polygon
pub mod Origins
pub mod Internal
