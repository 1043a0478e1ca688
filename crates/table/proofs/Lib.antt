pub mod Choice
pub mod Equal
pub mod InPlace
pub mod Kept
pub mod Touch
