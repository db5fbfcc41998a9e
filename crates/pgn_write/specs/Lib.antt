pub mod TagPairs
pub mod Token
pub mod Tokens
pub mod Layout
pub mod Pgn
pub mod Writing
