pub mod Json
pub mod Faults
pub mod SchemaFiles
pub mod CallsFiles
pub mod CallViews
pub mod RenamesFiles
