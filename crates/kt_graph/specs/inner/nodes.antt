-- Nodes as the code holds them: before they have numbers, with numbers, and while they are found.
pub mod GraphBuilder
pub mod Stems
pub mod Inputs
pub mod Stored
pub mod Buckets
pub mod Needed
pub mod Numbering
pub mod Reached
pub mod Inferring
pub mod Graph
pub mod Fronts
pub mod Grouping
pub mod NodeTable
