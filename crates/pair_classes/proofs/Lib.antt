mod Members
mod Summed
