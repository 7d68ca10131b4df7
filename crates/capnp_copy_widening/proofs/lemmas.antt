pub mod Standing
pub mod ObjectsThere
pub mod WholeLists
pub mod GotStructs
pub mod CopiedNumbers
