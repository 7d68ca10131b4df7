mod Compared
mod Framing
mod Handles
mod Made
mod Refusals
mod Runs
mod Values
