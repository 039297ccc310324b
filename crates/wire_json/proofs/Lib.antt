pub mod MarkedOf
pub mod RunsOfList
pub mod PartsOfList
pub mod ValueOf
