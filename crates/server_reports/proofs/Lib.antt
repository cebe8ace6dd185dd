mod Putting
mod Asking
mod Admits
mod Collects
mod Counting
