-- Lemmas, in the folders of the code that they are about; those beside the folders are about lists and names.
pub mod search
pub mod nodes
pub mod faults
pub mod Membership
pub mod MemberLemmas
pub mod EndMarkLemmas
