pub mod FromBelow
pub mod Words
pub mod Sets
pub mod Signs
pub mod Counted
