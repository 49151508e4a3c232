pub mod PayloadWords
pub mod RingLists
pub mod ReaderLists
pub mod LineQueues
pub mod Names
