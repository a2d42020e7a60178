pub mod Bodies
pub mod Body
pub mod CommitBodies
pub mod ManagementBodies
pub mod Renaming
pub mod TableBody
pub mod ViewBodies
