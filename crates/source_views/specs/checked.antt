-- Definitions that no public contract cites: not to be believed, but checked with the code that cites them.
pub mod DrawnProfiles
pub mod DrawnRuns
pub mod Filling
pub mod HeldLists
pub mod Moments
