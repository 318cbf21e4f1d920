-- The refusals by their codes.
use Rattle.std.specs.Prelude.{ℕ, List, codes}
use Rattle.am_config.specs.Refusals as config
use Rattle.am_judge.specs.declared.reason.Reason.{Reason}
use Rattle.am_judge.specs.declared.reason.Reason.TheVariants.{TooLong, Config}

-- the code that a refusal carries
abbrev pub code_of : Reason → List ℕ
code_of (TooLong most) = codes "Li3"
code_of (Config refusal) = config.code_of refusal
