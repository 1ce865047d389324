pub mod Names
pub mod OneMore
pub mod Changes
pub mod Told
pub mod Laws
pub mod Public
