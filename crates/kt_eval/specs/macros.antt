-- Macros, and what an assignment does to them: from a table, an operator, a name and a text, the new table. Begin with
-- the definition `assigning` in `Macros`.
pub mod Macros
pub mod Assignments
