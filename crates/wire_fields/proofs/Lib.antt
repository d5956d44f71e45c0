pub mod Groups
pub mod Items
pub mod NumberRead
pub mod FieldRead
pub mod Rows
