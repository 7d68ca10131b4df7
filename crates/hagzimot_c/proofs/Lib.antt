mod Ended
mod Fronts
mod Texts
mod Versions
