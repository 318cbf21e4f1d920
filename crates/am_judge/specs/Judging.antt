-- What becomes of a file: the document that it stands for, whether that is accepted, and with which code and at which
-- place it is refused.
use Rattle.std.specs.Prelude.{◌≡◌, ℕ, ◌<◌, ◌≤◌, Bool, List, [], chars, codes, length, Option, Some, None, is_some}
use Rattle.std.specs.Prelude.{unwrap_or, Result, Ok, Err, if◌then◌else◌}
use Rattle.std.specs.Option.{ForSome}
use Rattle.std.specs.Str.{is_utf8}
use Rattle.serde_json.specs.Data.{Data, string, object, no_members, member}
use Rattle.serde_json.specs.Find.{get}
use Rattle.serde_json.specs.Written.{compact_text}
use Rattle.am_pattern.specs.Cache.{Cache}
use Rattle.am_json.specs.Reading.{json}
use Rattle.am_json.specs.declared.refusal.JsonRefusal.{JsonRefusal}
use Rattle.am_limit.specs.declared.limits.Limits.{Limits}
use Rattle.am_match.specs.Checking.{IsTextRefusal}
use Rattle.am_match.specs.Reading.{matchers_of}
use Rattle.am_match.specs.declared.refusal.MatcherRefusal.TheVariants as matcher
use Rattle.am_draft.specs.Drafts.{posted}
use Rattle.am_draft.specs.declared.draft.Draft.{Draft}
use Rattle.am_draft.specs.declared.refusal.DraftRefusal.{DraftRefusal}
use Rattle.am_config.specs.Configuration.{Configuration}
use Rattle.am_config.specs.Judging.{IsRefusalOf, configuration}
use Rattle.am_config.specs.declared.refusal.ConfigRefusal.{ConfigRefusal}
use Rattle.am_judge.specs.Search.{Checked, checked_document}
use Rattle.am_judge.specs.declared.cause.Cause.TheVariants.{Whole}
use Rattle.am_judge.specs.declared.cause.Finding.{Finding}
use Rattle.am_judge.specs.declared.facts.Facts.{Facts}
use Rattle.am_judge.specs.declared.judging.Verdict.{Verdict}
use Rattle.am_judge.specs.declared.judging.Verdict.TheVariants.{Accepted, Refused}
use Rattle.am_judge.specs.declared.reason.Reason.{Reason}
use Rattle.am_judge.specs.declared.reason.Reason.TheVariants.{TooLong, Config}

-- ---- the document

-- it is a posted document, and no configuration's text
abbrev pub is_document : Data → Bool
is_document d = is_some (get (codes "alertmanager_config") d)

-- the shortest document with a text
abbrev pub document_data : List ℕ → Data
document_data text = object (member (codes "alertmanager_config") (string text) no_members)

unfoldable pub document_text : List ℕ → List ℕ
document_text text = compact_text (document_data text)

abbrev pub document_around : List ℕ → Option (List ℕ)
document_around bytes = if is_utf8 bytes then Some (document_text bytes) else None

-- the document around a file that is a configuration's text; a file that isn't JSON is left as it is
abbrev pub wrapped_by : List ℕ → Result Data JsonRefusal → Option (List ℕ)
wrapped_by file (Err refusal) = None
wrapped_by file (Ok d) = if is_document d then None else document_around file

abbrev pub wrapped : List ℕ → Option (List ℕ)
wrapped file = wrapped_by file (json file)

-- the document that a file stands for
abbrev pub document_of : List ℕ → List ℕ
document_of file = unwrap_or (wrapped file) file

-- ---- the place, and what stands there

-- a text of matchers is refused since a pattern of it isn't built
abbrev pub IsUnbuilt : List ℕ → Type 0
IsUnbuilt text = (old : Cache) × ((new : Cache) × IsTextRefusal (matchers_of (chars text)) old new matcher.BuildRefused)

-- what is known of a document, where this is a text of matchers that isn't built
abbrev pub facts_of : ConfigRefusal → Option (List ℕ) → Result Draft DraftRefusal → Facts
facts_of reason unbuilt (Ok draft) =
    record { reason = reason; routes = draft.routes; receivers = draft.receivers; unbuilt = unbuilt }
facts_of reason unbuilt (Err refusal) = record { reason = reason; routes = []; receivers = []; unbuilt = unbuilt }

-- the whole
abbrev pub whole : Finding
whole = record { place = []; cause = Whole }

-- where a check refused, and what stands there; the whole where it passed
abbrev pub finding_of_check : Checked → Finding
finding_of_check (Ok done) = whole
finding_of_check (Err finding) = finding

abbrev pub finding_in : Facts → Result Data JsonRefusal → Finding
finding_in facts (Ok d) = finding_of_check (checked_document facts d)
finding_in facts (Err refusal) = whole

-- it is the first place at which a value has this refusal, with what stands there; the whole for a document that isn't
-- JSON, or where there is none
pub record IsFindingOf (document : List ℕ) (reason : ConfigRefusal) (finding : Finding) : Type 0 where
  pub unbuilt : Option (List ℕ)
  pub is_unbuilt : ForSome unbuilt IsUnbuilt
  pub is : finding ≡ finding_in (facts_of reason unbuilt (posted document)) (json document)

-- ---- the verdict

-- a document that is too long is refused as a whole, before anything else; every other one with the configuration's
-- refusal
abbrev pub IsRefusal : List ℕ → Limits → Cache → Cache → Reason → Finding → Type 0
IsRefusal document limits old new (TooLong most) finding =
    (limits.configuration < length document) × ((most ≡ limits.configuration) × (finding ≡ whole))
IsRefusal document limits old new (Config reason) finding =
    (length document ≤ limits.configuration)
    × (IsRefusalOf (posted document) old new reason × IsFindingOf document reason finding)

-- every check of its configuration passes
abbrev pub IsAccepted : List ℕ → Type 0
IsAccepted document = (c : Configuration) × (configuration (posted document) ≡ Ok c)

-- what becomes of a document, where its patterns are built between these caches
abbrev pub IsVerdict : List ℕ → Limits → Cache → Cache → Verdict → Type 0
IsVerdict document limits old new Accepted =
    (length document ≤ limits.configuration) × IsAccepted document
IsVerdict document limits old new (Refused refusal) =
    IsRefusal document limits old new refusal.reason (record { place = refusal.place; cause = refusal.cause })

pub record Judges (document : List ℕ) (limits : Limits) (old : Cache) (verdict : Verdict) : Type 0 where
  pub built : Cache
  pub is : IsVerdict document limits old built verdict
