pub mod MessageAnswers
pub mod Answers
pub mod Streams
pub mod Work
pub mod Stops
pub mod Run
pub mod Pauses
pub mod Lines
