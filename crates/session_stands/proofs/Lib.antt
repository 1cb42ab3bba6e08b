pub mod Flying
pub mod Backing
pub mod Journal
pub mod Seating
pub mod Seats
pub mod Telling
pub mod Commits
pub mod InFlight
