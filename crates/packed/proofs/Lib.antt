-- bits, words and tables
pub mod Sets
pub mod BitsLaws
pub mod BitFields
pub mod SetBits
pub mod Counted
pub mod ByValueLaws
pub mod OrderCases
-- formats: what is read is what is written, and how long it gets
pub mod RoundTrip
pub mod Most
-- formats: what each accepts, in plain rules
pub mod AcceptedLaws
pub mod EdgePlaces
pub mod AcceptedEdges
pub mod AcceptedPairs
pub mod AcceptedRising
pub mod AcceptedGraphs
pub mod AcceptedTurns
pub mod AcceptedSheets
pub mod Accepted
pub mod AcceptedBounds
pub mod Questions
-- the moves of a reader and of a writer
pub mod Passing
pub mod ReadingLaws
pub mod WritingLaws
pub mod Times
pub mod Closing
pub mod Lent
pub mod Files
-- order: the sort, repeats, different numbers
pub mod Places
pub mod Tables
pub mod Sorts
pub mod Insertion
pub mod Repeats
pub mod DistinctLaws
pub mod DistinctMerge
pub mod DistinctAbsorb
-- patterns and catalogues
pub mod Edges
pub mod NotedLaws
pub mod Patterns
pub mod EdgeCounts
-- records
pub mod GraphLaws
pub mod SortedEdges
pub mod MadeRecords
pub mod EnteredLaws
pub mod EnteringLaws
pub mod EnteredWords
pub mod EnteredTable
-- sheets and books, and the edges of a record
pub mod Sheets
pub mod Records
pub mod Gathering
pub mod Walks
pub mod WalkLaws
pub mod BookSheetLaws
pub mod SheetLaws
pub mod MatchLaws
pub mod NamedLaws
pub mod ScatterLaws
-- records as they were stored before
pub mod OldRecords
pub mod OldLoadingLaws
pub mod OldGraphLaws
-- the calls
pub mod AcceptLaws
pub mod CallLaws
pub mod TwoOutputs
pub mod RefusalNumbers
pub mod CallRoundTrips
