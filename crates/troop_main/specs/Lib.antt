pub mod Words
pub mod Serving
pub mod Performing
pub mod Reports
