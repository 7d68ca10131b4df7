mod Copied
mod Within
mod Missteps
mod Walks
mod Fronts
mod Lasts
