mod Firsts
mod Deserting
mod MakingFinal
mod AskingBack
mod Resting
mod Counting
