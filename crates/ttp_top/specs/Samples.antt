pub mod Totals
pub mod Lines
pub mod Counted
pub mod Promise
