pub mod Spread
pub mod Together
pub mod Company
pub mod WorkedRun
pub mod WorkedCompany
