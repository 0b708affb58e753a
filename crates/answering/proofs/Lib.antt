-- sets of views and what they cover
pub mod CheapestSets
-- the table of a quote
pub mod QuoteLaws
-- a part of a query
pub mod PartingLaws
pub mod PartTable
pub mod PartAnswers
-- answers from a book
pub mod BookLaws
pub mod CandidateLaws
pub mod AnsweringLaws
pub mod CoveredBytes
-- several queries
pub mod SeveralLaws
pub mod SeveralAnswers
-- the calls
pub mod ShowLaws
pub mod Numbered
-- the demands
pub mod DemandRules
pub mod DemandFiles
pub mod WhenLaws
pub mod DemandSheets
pub mod DemandIndex
pub mod DemandJoin
pub mod DemandSteps
pub mod DemandThree
pub mod DemandsOneTwo
pub mod EmptyCatalogues
pub mod Sorting
pub mod Parts
pub mod Severals
pub mod OnDays
-- links that enter
pub mod Entering
pub mod Asking
-- the listing
pub mod Listings
-- cases
pub mod Table
