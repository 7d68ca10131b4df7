pub mod lemmas
mod Gets
mod Passing
mod Objects
mod Sorts
mod Elements
mod Fields
mod Sizing
mod ReadingLaws
mod Telling
