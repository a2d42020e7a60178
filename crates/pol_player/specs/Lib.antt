pub mod Disks
pub mod Playing
pub mod Telling
