pub mod Rows
pub mod Arguments
pub mod Doubling
pub mod Agreement
pub mod BarePlaces
