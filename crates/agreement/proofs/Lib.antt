pub mod RoomPages
