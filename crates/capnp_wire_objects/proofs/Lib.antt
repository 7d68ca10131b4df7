pub mod lemmas
mod Pads
