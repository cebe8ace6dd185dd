mod Answering
mod TotalItems
mod Going
mod NextLine
mod Opening
mod Plain
mod Sound
mod TraceTexts
