mod GoingOn
mod Outgoing
mod Heard
mod InPieces
