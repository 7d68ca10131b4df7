pub mod lemmas
mod Clearing
mod MovedChildren
mod CanonicalWords
mod Counting
mod Depths
mod FewerLevels
mod Lengths
