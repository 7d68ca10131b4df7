pub mod lemmas
mod DataWords
mod Bytes
mod Marks
mod Groups
mod Cleared
mod Verbs
mod InitSlots
mod NewLists
mod Begun
mod AnyValues
mod CopiedFields
mod SourceReadings
mod EmptyValues
mod Faultless
mod FieldRefusals
mod NullRefusals
mod GroupExamples
