mod Before
mod Elsewhere
mod Held
mod Laid
mod Numbers
mod Reading
