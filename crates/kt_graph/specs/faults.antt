-- What is reported if there is no graph: from the rules, the known names and the goals, the first trouble with its
-- number and message. `Paths` defines which names are names of one file; `Reach`, what a trouble is.
pub mod Paths
pub mod Faults
