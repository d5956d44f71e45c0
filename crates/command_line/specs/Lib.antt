-- The definitions that the contracts of command_line cite.
pub mod CommandLine
pub mod Destinations
pub mod EarlyValues
pub mod Plans
pub mod Units
pub mod checked
