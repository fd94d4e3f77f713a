pub mod KeyOrder
pub mod Compare
