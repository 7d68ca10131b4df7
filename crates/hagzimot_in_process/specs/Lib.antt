pub mod Frames
pub mod Held
pub mod Opened
pub mod Relays
