pub mod RowLemmas
pub mod CommandLemmas
pub mod QuotingLemmas
