-- What a text expands to: from a text and a world, the expanded text and the new world, or a fault. Begin with the
-- definition `expanded` in `Expansion`; `Levels` puts one level on top of another.
pub mod TextFunctions
pub mod Calls
pub mod Expansion
pub mod Levels
pub mod Pure
