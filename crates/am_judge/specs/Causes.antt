-- What stands at the place of a refusal.
use Rattle.std.specs.Prelude.{ℕ, ◌==◌, List, chars, codes, Option, Some, None, Result, Ok, Err, if◌then◌else◌}
use Rattle.std.specs.List.{starts_with}
use Rattle.serde_json.specs.Data.{Data}
use Rattle.serde_json.specs.Find.{as_str}
use Rattle.am_match.specs.Checking.{reading_of}
use Rattle.am_match.specs.Matchers.{MatcherText}
use Rattle.am_match.specs.Reading.{matchers_of}
use Rattle.am_match.specs.declared.refusal.MatcherRefusal.{MatcherRefusal}
use Rattle.am_config.specs.declared.refusal.ConfigRefusal.{ConfigRefusal}
use Rattle.am_config.specs.declared.refusal.ConfigRefusal.TheVariants.{BadMatcher, BadUrl}
use Rattle.am_judge.specs.declared.cause.Cause.{Cause}
use Rattle.am_judge.specs.declared.cause.Cause.TheVariants.{Value, Matchers, OtherScheme}
use Rattle.am_judge.specs.declared.kind.Kind.{Kind}

-- by what a text is read as that should give matchers
abbrev pub by_matchers : Kind → Result (List MatcherText) MatcherRefusal → Cause
by_matchers k (Ok matchers) = Value k
by_matchers k (Err refusal) = Matchers refusal

-- by what a URL begins with
abbrev pub by_url : Kind → List ℕ → Cause
by_url k text = if starts_with (λ a b. a == b) text (codes "http://") then Value k else OtherScheme

abbrev pub cause_of_text : ConfigRefusal → Kind → List ℕ → Cause
cause_of_text BadMatcher k text = by_matchers k (reading_of (matchers_of (chars text)))
cause_of_text BadUrl k text = by_url k text
cause_of_text _ k text = Value k

abbrev pub cause_of_found : ConfigRefusal → Kind → Option (List ℕ) → Cause
cause_of_found reason k None = Value k
cause_of_found reason k (Some text) = cause_of_text reason k text

-- of a value of this kind that by itself has a refusal
abbrev pub cause_of : ConfigRefusal → Kind → Data → Cause
cause_of reason k d = cause_of_found reason k (as_str d)
