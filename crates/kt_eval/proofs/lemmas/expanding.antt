-- Lemmas about texts expanded.
pub mod LiteralLemmas
pub mod PlainLemmas
pub mod ArgumentLemmas
pub mod FrameLemmas
pub mod AppendingLemmas
pub mod PureLemmas
pub mod SoleLemmas
pub mod FunctionLemmas
