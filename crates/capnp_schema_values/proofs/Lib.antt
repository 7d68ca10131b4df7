mod InputGrowth
mod AcceptedLists
mod FoundLists
mod BegunBytes
mod PlainValues
mod GotParts
mod GotLists
mod GotElements
