pub mod lemmas
mod Bits
mod Elements
mod Examples
mod FieldKinds
mod Named
mod PointerReadings
mod ValueReadings
