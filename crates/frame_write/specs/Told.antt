-- What writing tells: how many bytes the frame has, or the number of a refusal.
-- Assumes nothing.
use Rattle.std.specs.Prelude.{ℕ, Result, Ok, Err}
use Rattle.theory_refusals.specs.declared.Refusal.{Refusal}
use Rattle.theory_refusals.specs.Numbers.{number_of}
use Rattle.frame.specs.declared.Written.{Written}

abbrev pub told : Result ℕ Refusal → Written
told (Ok used) = record { code = 0; used = used }
told (Err r) = record { code = number_of r; used = 0 }
