pub mod Clients
pub mod Bodies
pub mod Script
pub mod Bytewise
pub mod Reading
pub mod Standing
pub mod Fronts
