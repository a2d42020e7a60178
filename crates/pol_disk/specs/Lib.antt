pub mod Content
pub mod Disk
pub mod FileCalls
pub mod MemoryDisk
