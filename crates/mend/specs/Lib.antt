pub mod Mend
pub mod MendCall
pub mod Internal
