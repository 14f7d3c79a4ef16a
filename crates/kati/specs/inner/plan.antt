-- The plan as the code holds it, and as the printer sees it.
pub mod Drawn
pub mod Shown
