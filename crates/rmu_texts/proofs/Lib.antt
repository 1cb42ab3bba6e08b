mod Lines
mod Worked
