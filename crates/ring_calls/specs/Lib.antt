pub mod RingCall
pub mod Internal
