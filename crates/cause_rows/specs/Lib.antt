pub mod Clusters
pub mod Texts
