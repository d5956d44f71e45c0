-- Definitions that no contract of a public function cites. The proofs use them; a reader need not believe them.
pub mod FoundNames
pub mod Histories
pub mod Links
pub mod NameLists
pub mod NodeOrder
pub mod Nodes
pub mod Places
pub mod Spellings
