pub mod EntryLaws
pub mod NumberLaws
pub mod ListLaws
pub mod SetLaws
pub mod NumberCases
