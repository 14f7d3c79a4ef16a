-- What the lines of a makefile do, one after another: from lines and a world, the new world, or the first fault. Begin
-- with the definition `read_items` in `Reading`.
pub mod Conditions
pub mod Conditionals
pub mod Rules
pub mod Reading
pub mod Machine
