pub mod Answer
pub mod Fields
pub mod Head
pub mod Laws
pub mod Message
pub mod Next
pub mod Reading
pub mod Text
