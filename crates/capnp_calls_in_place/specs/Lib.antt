pub mod PlainSets
pub mod CallSplices
