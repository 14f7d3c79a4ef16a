pub mod Common
pub mod lemmas
pub mod LevelLemmas
pub mod BodyLemmas
pub mod Steps
pub mod RootLemmas
