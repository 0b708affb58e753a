-- match sets by their edges and codes
pub mod Removed
pub mod ByEdge
pub mod MatchSetLaws
pub mod Listed
pub mod EdgeLaws
pub mod SortedGraphs
-- files by value: patterns, records
pub mod PatternLaws
pub mod RecordLaws
-- the join and its candidates
pub mod JoiningLaws
pub mod JoinLaws
pub mod MarkedLaws
pub mod ComponentLaws
pub mod ReachLaws
pub mod LeftLaws
pub mod SteppingLaws
pub mod PruningLaws
pub mod Taking
pub mod TakingSheets
pub mod JoinedLaws
pub mod AnswerLaws
-- what is offered
pub mod OfferedLaws
-- sheets and books in bytes
pub mod SheetBytes
pub mod BookBytes
pub mod BookLaws
pub mod BatchLaws
pub mod AnswerFits
-- a link that enters
pub mod EnteringLaws
-- demand 3 on lists
pub mod Covered
pub mod Uncovered
pub mod EnterLaws
pub mod EnteredGraphs
-- asking
pub mod AskLaws
-- the part of a pattern
pub mod PlaceLaws
pub mod Renumbered
pub mod PartLaws
pub mod PatternBytes
