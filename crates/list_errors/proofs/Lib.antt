pub mod FromBelow
pub mod Agree
pub mod TableAgree
pub mod Keys
pub mod Tables
pub mod Told
