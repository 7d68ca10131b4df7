mod Leading
mod Values
