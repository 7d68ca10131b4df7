pub mod lemmas
mod AcceptedSlots
mod FoundSlots
mod GivenCalls
mod LongPuts
mod MessageExamples
mod PathEnds
mod StraightPaths
mod Walks
mod PutsAt
