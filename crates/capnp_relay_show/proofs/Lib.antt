mod Framing
mod Roots
mod Shown
mod Walks
