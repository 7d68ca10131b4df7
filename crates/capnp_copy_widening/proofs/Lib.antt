pub mod lemmas
mod Copied
mod MovedPointers
mod MovedRows
mod WiderRooms
mod WidenedStructs
mod Bounds
mod MovedLists
mod FilledLists
mod SpreadPointers
mod KnownLists
mod WidenedLists
mod WideLists
