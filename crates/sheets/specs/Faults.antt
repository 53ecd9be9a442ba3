-- The number and the values that a sheet's fault tells.
use Rattle.refusals.specs.declared.Refusal.{Refusal}
use Rattle.refusals.specs.Numbers.{repeated_feeder, bare_bank}
use Rattle.frames.specs.Faults.{file_told}
use Rattle.sheets.specs.declared.faults.SheetFault.{SheetFault}
use Rattle.sheets.specs.declared.faults.SheetFault.TheVariants.{File, Repeated, NoFeeder}

-- a fault of any file, or one of the feeders
abbrev pub sheet_told : SheetFault → Refusal
sheet_told (File f) = file_told f
sheet_told (Repeated l) = repeated_feeder l
sheet_told (NoFeeder l) = bare_bank l
