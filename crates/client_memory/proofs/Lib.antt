mod Taking
mod Carried
mod Behind
