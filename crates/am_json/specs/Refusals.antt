-- The refusals of JSON by their codes.
use Rattle.std.specs.Prelude.{ℕ, List, codes}
use Rattle.am_json.specs.declared.refusal.JsonRefusal.{JsonRefusal}
use Rattle.am_json.specs.declared.refusal.JsonRefusal.TheVariants.{NotJson, BadForm}

-- the code that a refusal carries
abbrev pub code_of : JsonRefusal → List ℕ
code_of NotJson = codes "J1"
code_of BadForm = codes "J2"
