pub mod Gathering
pub mod Joined
pub mod Keys
pub mod Ranks
pub mod Weighing
pub mod checked
