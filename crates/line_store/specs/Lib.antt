pub use Rattle.area_files.specs as area_files
pub use Rattle.line_view.specs as line_view
pub use Rattle.rdb_outside.specs as rdb_outside
pub use Rattle.area_files.specs.rdb_page as rdb_page
pub mod Seats
pub mod Shelves
pub mod Rooms
pub mod Calls
pub mod Sights
