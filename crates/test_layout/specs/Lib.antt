pub mod Deep
pub mod Persons
