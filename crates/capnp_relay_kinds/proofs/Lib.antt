mod Values
mod Rows
mod Fields
mod Depths
mod Messages
