-- `KeyOrder`: the order of keys is that of their wire bytes. `Compare`: so comparing the bytes walked over is comparing the keys. `Examples`.
pub mod KeyOrder
pub mod Compare
mod Examples
