-- Inhibit rules as they are written.
use Rattle.std.specs.Prelude.{List, [], ◌∷◌, codes, Result, Ok}
use Rattle.serde_json.specs.Data.{Data, Items, no_items, item}
use Rattle.serde_json.specs.Find.{get, as_array}
use Rattle.am_json.specs.declared.refusal.JsonRefusal.{JsonRefusal}
use Rattle.am_draft.specs.declared.keys.Place.TheVariants.{Rule}
use Rattle.am_draft.specs.declared.rule.RuleDraft.{RuleDraft}
use Rattle.am_text.specs.Outcome.{◌>>=◌}
use Rattle.am_json.specs.Reading.{formed, optional, texts_in}
use Rattle.am_draft.specs.Keys.{leaves_out}
use Rattle.am_draft.specs.Names.{names_in}

unfoldable pub rule_of : Data → Result RuleDraft JsonRefusal
rule_of d = do
  left_out ← leaves_out Rule d
  source ← optional [] texts_in (get (codes "source_matchers") d)
  target ← optional [] texts_in (get (codes "target_matchers") d)
  equal ← optional [] names_in (get (codes "equal") d)
  Ok (record { source = source; target = target; equal = equal; left_out = left_out })

unfoldable pub rules_of : Items → Result (List RuleDraft) JsonRefusal
rules_of no_items = Ok []
rules_of (item d ds) = do
  rule ← rule_of d
  rules ← rules_of ds
  Ok (rule ∷ rules)

-- a list of inhibit rules
abbrev pub rules_in : Data → Result (List RuleDraft) JsonRefusal
rules_in d = formed (as_array d) >>= rules_of
