pub mod Rooms
pub mod Laid
