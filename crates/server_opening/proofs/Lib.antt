mod Begun
mod Counting
mod Owing
mod Paying
mod Used
