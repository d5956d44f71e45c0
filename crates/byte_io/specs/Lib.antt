-- The definitions that the contracts of byte_io cite.
pub mod Calls
pub mod Faults
pub mod Files
pub mod Inlet
pub mod Outlet
pub mod Outputs
pub mod Pieces
pub mod Stored
pub mod checked
