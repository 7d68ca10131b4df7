pub mod lemmas
mod PlainElements
mod Parts
mod Pointers
mod Contents
mod NewElements
mod AnyValues
