-- Definitions that no public contract cites: not to be believed, but checked with the code that cites them.
pub mod Apps
pub mod Commands
pub mod Entries
