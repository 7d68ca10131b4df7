pub mod Answers
pub mod Reading
pub mod Bounds
pub mod Sizes
pub mod Found
pub mod Gets
pub mod RootCalls
pub mod Plain
