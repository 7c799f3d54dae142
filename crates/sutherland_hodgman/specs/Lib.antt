pub mod Clip
pub mod Growth
pub mod Origins
pub mod Promise
pub mod Internal
