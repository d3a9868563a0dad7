pub mod PlanKeys
pub mod StrayKeys
pub mod WrongKeys
pub mod ServicesStay
pub mod StraysCame
