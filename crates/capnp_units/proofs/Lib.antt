pub mod lemmas
mod ItemsLemmas
mod SignedMasks
