mod OnlyMembers
mod JsonTexts
mod FileExamples
mod EachItem
