-- Edges, files and spellings as the code holds them while it looks for faults.
pub mod Edges
pub mod Arrivals
pub mod Files
pub mod Troubles
