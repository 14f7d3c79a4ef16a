-- Lemmas about the plan of a graph: what is stored of it, what is seen of that, and which texts it has.
pub mod SingleLemmas
pub mod DrawnLemmas
pub mod SketchLemmas
pub mod GraphPlanLemmas
pub mod PlanLemmas
pub mod TextLemmas
pub mod PlanningLemmas
pub mod SharedLemmas
