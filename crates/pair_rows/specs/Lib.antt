pub mod Clusters
pub mod Told
pub mod Texts
pub mod Given
