pub mod SheetReads
pub mod FeederFields
pub mod FeederReads
pub mod GoodLines
pub mod OneSheet
pub mod BestSoFar
