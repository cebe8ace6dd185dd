mod Texts
mod Filling
mod PlacesRead
mod EventsRead
mod LinesRead
mod Within
mod LinesWithin
mod Given
