-- Lemmas, in the folders of the code that they are about; those beside the folders are about several of them.
pub mod macros
pub mod expanding
pub mod FaultLemmas
pub mod PlaceLemmas
pub mod reading
pub mod GrowingLemmas
pub mod GrowingReads
pub mod TrailLemmas
pub mod EarlyLemmas
pub mod TextLemmas
pub mod LastLemmas
pub mod AgreementLemmas
