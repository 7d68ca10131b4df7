pub mod Moves
pub mod Widened
pub mod Got
pub mod MovedElements
pub mod WidenedLists
