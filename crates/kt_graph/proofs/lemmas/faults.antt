-- Lemmas about what is wrong with a graph.
pub mod PartLemmas
pub mod PlainNameLemmas
pub mod SpellingLemmas
pub mod MarkLemmas
pub mod CircleLemmas
pub mod EdgeLemmas
pub mod ArrivalLemmas
pub mod FileLemmas
pub mod TroubleLemmas
pub mod CyclicLemmas
pub mod VertexLemmas
