pub mod Pairs
pub mod Classes
pub mod Sums
pub mod PairText
