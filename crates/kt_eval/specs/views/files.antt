-- What a read leaves, and files in memory.
pub mod Files
pub mod Memory
