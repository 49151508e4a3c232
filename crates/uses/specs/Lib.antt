pub mod Asked
pub mod LastLines
pub mod Measured
pub mod SafeTrace
