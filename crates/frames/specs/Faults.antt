-- The number and the values that each fault tells.
use Rattle.refusals.specs.declared.Refusal.{Refusal}
use Rattle.refusals.specs.Numbers.{no_digit, no_frame, out_of_place, bad_field, bad_end, not_lawful_in_file}
use Rattle.frames.specs.declared.digits.DigitFault.{DigitFault}
use Rattle.frames.specs.declared.frame.FrameFault.{FrameFault}
use Rattle.frames.specs.declared.frame.FrameFault.TheVariants.{Digit, Shape}
use Rattle.frames.specs.declared.faults.FileFault.{FileFault}
use Rattle.frames.specs.declared.faults.FileFault.TheVariants.{Frame as InFrame, TooLong, Unclosed, AfterEnd, Misplaced, Field, Unlawful}

-- a fault of the digits
abbrev pub digit_told : DigitFault → Refusal
digit_told d = no_digit d.line d.column

-- a fault of a frame: a byte that is no digit, or a line that is no frame
abbrev pub frame_told : FrameFault → Refusal
frame_told (Digit d) = digit_told d
frame_told (Shape l) = no_frame l

-- a fault of a file: a frame's, or one of place, limits, counts and ends
abbrev pub file_told : FileFault → Refusal
file_told (InFrame e) = frame_told e
file_told TooLong = bad_end 1
file_told (Unclosed l) = bad_end l
file_told (AfterEnd l) = bad_end l
file_told (Misplaced l) = out_of_place l
file_told (Field l c) = bad_field l c
file_told (Unlawful l lap p) = not_lawful_in_file l lap p
