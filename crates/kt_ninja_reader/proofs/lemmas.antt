-- Lemmas about the lines, parts and spellings of a Ninja text, and about reading what was printed.
pub mod Stripping
pub mod PrintedPieces
pub mod PrintedNames
pub mod PrintedForms
pub mod PrintedLines
pub mod PrintedParts
pub mod PrintThenRead
pub mod JoinedLemmas
pub mod TableLemmas
pub mod PieceLemmas
pub mod ScopeLemmas
pub mod SpelledLemmas
pub mod SpelledParts
pub mod FormLemmas
pub mod StateLemmas
pub mod ReaderLemmas
pub mod LineLemmas
