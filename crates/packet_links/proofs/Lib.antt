mod Changes
mod Least
mod Numbers
mod Places
mod Rising
