pub mod DataWords
