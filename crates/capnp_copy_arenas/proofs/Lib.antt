pub mod lemmas
mod Zeros
mod ByteWords
mod HeldWords
mod Changed
mod Shifts
mod ClearedKids
mod ClearedElements
mod ClearedObjects
mod ClearedSlots
mod ListWords
mod MakingStructs
mod ByteSets
