pub mod Common
pub mod Cutting
pub mod Depths
pub mod Taking
pub mod Answering
