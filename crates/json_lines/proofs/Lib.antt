mod Objects
mod Pieces
