mod RowLemmas
mod MarkLemmas
mod PointerLemmas
