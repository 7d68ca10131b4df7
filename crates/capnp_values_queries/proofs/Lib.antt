pub mod lemmas
mod FieldRecords
mod Tabled
mod NameSearch
mod EnumRecords
mod RawNodes
