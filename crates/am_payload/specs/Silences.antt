-- The JSON of silences: keys in order of name, no spaces.
use Rattle.std.specs.Prelude.{ℕ, Bool, true, false, List, map, codes}
use Rattle.serde_json.specs.Data.{Data, boolean, string, array, object, no_members, member}
use Rattle.serde_json.specs.View.{items_of}
use Rattle.serde_json.specs.Written.{compact_text}
use Rattle.am_text.specs.Printing.{moment_text}
use Rattle.am_match.specs.Matchers.{MatcherText, is_on_pattern}
use Rattle.am_match.specs.declared.matcher.Operator.{Operator}
use Rattle.am_match.specs.declared.matcher.Operator.TheVariants.{Equal, NotEqual, Match, NotMatch}
use Rattle.am_silence.specs.Held.{SilenceValue}
use Rattle.am_silence.specs.Silences.{state_of}
use Rattle.am_silence.specs.declared.state.SilenceState.{SilenceState}
use Rattle.am_silence.specs.declared.state.SilenceState.TheVariants.{Pending, Active, Expired}
use Rattle.am_words.specs.Ids.{id_text}

-- the operator takes what is equal or matches, and not what isn't or doesn't
abbrev pub takes_equal : Operator → Bool
takes_equal Equal = true
takes_equal NotEqual = false
takes_equal Match = true
takes_equal NotMatch = false

-- a matcher, its operator by two flags
abbrev pub matcher_data : MatcherText → Data
matcher_data m = object
    (member (codes "isEqual") (boolean (takes_equal m.operator))
    (member (codes "isRegex") (boolean (is_on_pattern m.operator))
    (member (codes "name") (string m.name)
    (member (codes "value") (string m.value) no_members))))

abbrev pub matchers_data : List MatcherText → Data
matchers_data matchers = array (items_of (map matcher_data matchers))

-- the name of a state
abbrev pub state_name : SilenceState → List ℕ
state_name Pending = codes "pending"
state_name Active = codes "active"
state_name Expired = codes "expired"

abbrev pub state_data : SilenceState → Data
state_data state = object (member (codes "state") (string (state_name state)) no_members)

-- a silence as it is at a moment; it was updated at its stamp's moment
unfoldable pub silence_data : ℕ → SilenceValue → Data
silence_data moment s = object
    (member (codes "comment") (string s.details.comment)
    (member (codes "createdBy") (string s.details.created_by)
    (member (codes "endsAt") (string (moment_text s.details.ends_at))
    (member (codes "id") (string (id_text s.id))
    (member (codes "matchers") (matchers_data s.details.matchers)
    (member (codes "startsAt") (string (moment_text s.details.starts_at))
    (member (codes "status") (state_data (state_of moment s.details))
    (member (codes "updatedAt") (string (moment_text s.stamp.moment)) no_members))))))))

-- a list of them
abbrev pub silences_data : ℕ → List SilenceValue → Data
silences_data moment silences = array (items_of (map (silence_data moment) silences))

-- what a post of a silence is answered: the silence's identifier
abbrev pub posted_data : List ℕ → Data
posted_data id = object (member (codes "silenceID") (string (id_text id)) no_members)

-- their bytes
abbrev pub silence_text : ℕ → SilenceValue → List ℕ
silence_text moment silence = compact_text (silence_data moment silence)

abbrev pub silences_text : ℕ → List SilenceValue → List ℕ
silences_text moment silences = compact_text (silences_data moment silences)

unfoldable pub posted_text : List ℕ → List ℕ
posted_text id = compact_text (posted_data id)
