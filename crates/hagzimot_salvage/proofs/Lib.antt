mod Refusals
mod Clear
mod Fronts
mod Adjacent
mod Writing
mod Whole
