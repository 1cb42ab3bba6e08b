pub mod Laws
mod Place
