pub mod Showing
pub mod Streams
pub mod Printed
pub mod Copied
pub mod Answers
