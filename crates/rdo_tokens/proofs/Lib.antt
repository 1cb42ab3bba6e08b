pub mod LexLemmas
pub mod CursorLemmas
pub mod TrimLemmas
pub mod Turns
pub mod LabelLemmas
mod Examples
