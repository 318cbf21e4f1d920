-- The refusals of drafts by their codes.
use Rattle.std.specs.Prelude.{ℕ, List, codes}
use Rattle.am_json.specs.declared.refusal.JsonRefusal.{JsonRefusal}
use Rattle.am_json.specs.declared.refusal.JsonRefusal.TheVariants as json
use Rattle.am_draft.specs.declared.refusal.DraftRefusal.{DraftRefusal}
use Rattle.am_draft.specs.declared.refusal.DraftRefusal.TheVariants as draft

-- the code that a refusal carries
abbrev pub code_of : DraftRefusal → List ℕ
code_of draft.NotJson = codes "C1"
code_of draft.BadForm = codes "C2"

-- the draft's refusal where its JSON is refused
abbrev pub refusal_of : JsonRefusal → DraftRefusal
refusal_of json.NotJson = draft.NotJson
refusal_of json.BadForm = draft.BadForm
