-- lists, masks and loops
pub mod ListLaws
pub mod UpToLaws
pub mod Masks
pub mod MaskBits
pub mod Filling
-- the greatest choice and simulation
pub mod GreatestLaws
pub mod SimLaws
pub mod MatchLaws
-- match sets by their edges and codes
pub mod ByEdge
pub mod CodeLaws
pub mod AllOrNone
pub mod RankLaws
pub mod MatchedLaws
-- views by value
pub mod ViewLaws
-- tables and the start
pub mod TableLaws
pub mod RowLaws
pub mod StartLaws
pub mod ItemLaws
pub mod PartLaws
-- sweeps
pub mod SweepingLaws
pub mod SettlingLaws
pub mod SoundLaws
pub mod RoundLaws
pub mod RestingLaws
-- marked nodes
pub mod IndexLaws
pub mod OwnIndex
pub mod EndLaws
pub mod SideLaws
pub mod SetLaws
pub mod TurnLaws
-- what the engine's rest is
pub mod SearchingLaws
pub mod FoundLaws
