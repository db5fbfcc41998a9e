pub mod Stops
pub mod ExitCodes
