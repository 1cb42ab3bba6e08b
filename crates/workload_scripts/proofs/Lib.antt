mod Lengths
mod Parts
mod Turns
mod Worked
