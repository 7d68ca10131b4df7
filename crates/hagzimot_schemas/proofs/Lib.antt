mod Escapes
mod Colons
mod BreakExamples
mod KnownPairs
mod Walks
