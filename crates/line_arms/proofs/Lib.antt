pub mod Arms
pub mod Asked
pub mod Rooms
pub mod Taken
