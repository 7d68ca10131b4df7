mod Counted
mod DoneTexts
mod Refusals
