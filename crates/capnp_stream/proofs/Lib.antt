pub mod lemmas
mod SpellLemmas
mod FlatLemmas
mod TableLemmas
mod ReadLemmas
mod BufferLemmas
mod RefusalLemmas
mod WritesLemmas
