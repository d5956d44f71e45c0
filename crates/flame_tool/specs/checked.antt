-- Definitions that no public contract cites: not to be believed, but checked with the code that cites them.
pub mod Drawings
pub mod EndReports
pub mod Failures
pub mod Frames
pub mod LiveEnds
pub mod LivePlans
pub mod LiveSaying
pub mod LiveStreams
pub mod RenewalProps
pub mod Renewals
pub mod ReportProps
pub mod SaidOfSources
pub mod Saying
pub mod Showed
pub mod SummedPlans
pub mod Telling
pub mod TypeFailures
