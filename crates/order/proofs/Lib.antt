-- Laws of the definitions: `Laws` for the reader, `Steps` for the code, by way of `Graph`; and `Examples`.
pub mod Graph
pub mod Laws
pub mod Steps
mod Examples
