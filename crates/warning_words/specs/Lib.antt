pub mod SaidLines
pub mod Texts
pub mod Warnings
