pub mod Clusters
pub mod Texts
pub mod Given
