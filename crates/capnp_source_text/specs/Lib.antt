pub mod Bytes
pub mod Integers
pub mod Lexemes
pub mod Literals
pub mod Positions
pub mod Tokens
