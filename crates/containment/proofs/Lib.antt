-- sets of views and what they cover
pub mod SetBits
pub mod ChoiceLaws
pub mod MaskedLaws
pub mod ColumnLaws
pub mod CheapestLaws
pub mod TriesLaws
pub mod BoundedLaws
-- a query read as a record
pub mod QueryGraph
pub mod FieldLaws
pub mod QueryLaws
pub mod GraphedLaws
-- the table of a quote
pub mod MappingLaws
pub mod NotingLaws
-- the calls
pub mod AnswerLaws
pub mod CostingLaws
pub mod TermsLaws
-- the listing
pub mod ListingLaws
