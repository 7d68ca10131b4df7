pub mod WordLemmas
pub mod EarlyLemmas
pub mod PieceLemmas
pub mod FrameLemmas
pub mod ShownLemmas
pub mod WriteLemmas
