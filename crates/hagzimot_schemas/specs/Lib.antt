pub mod Roots
pub mod SchemaForms
pub mod JsonText
pub mod Nodes
pub mod Rules
pub mod Interfaces
pub mod Sentences
pub mod Twins
