pub mod Looked
pub mod RoomKept
pub mod AtOnce
