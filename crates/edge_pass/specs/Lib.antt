pub mod Pass
pub mod Growth
pub mod Verdicts
pub mod Origins
pub mod Internal
