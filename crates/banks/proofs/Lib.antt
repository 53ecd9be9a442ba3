pub mod Below
pub mod Spread
pub mod SameBank
pub mod Identical
pub mod Makers
pub mod OneTable
pub mod TableLines
pub mod SheetBanks
