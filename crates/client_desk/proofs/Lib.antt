pub mod GameLaws
pub mod SeatLaws
pub mod EchoLaws
pub mod DeskLaws
