pub mod Rows
pub mod Parts
pub mod Contents
pub mod Marks
pub mod Reached
pub mod Explanations
pub mod Lines
