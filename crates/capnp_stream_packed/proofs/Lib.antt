pub mod lemmas
mod TagLemmas
mod PartLemmas
mod HeadLemmas
mod UnpackLemmas
mod ReadLemmas
mod GroupLemmas
mod PieceLemmas
mod RunLemmas
mod SizeLemmas
mod LeftLemmas
