pub mod SpaceMap
