pub mod lemmas
mod StepLemmas
mod RunLemmas
mod LogLemmas
mod LineLemmas
