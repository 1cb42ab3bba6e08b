mod Found
mod Left
mod Pages
mod Viewed
