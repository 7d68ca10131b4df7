pub mod Messages
pub mod Options
pub mod Relaying
pub mod Answers
pub mod Again
pub mod Newer
pub mod Ends
