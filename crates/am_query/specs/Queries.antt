-- What a query asks: its parameters, in their order, and what they say together.
use Rattle.std.specs.Prelude.{ℕ, Bool, true, not, ◌||◌, List, [], ◌∷◌, ◌++◌, codes, filter, map, find, reverse, Option, option_map, Result, Ok, Err, if◌then◌else◌}
use Rattle.std.specs.Option.{option_map_or}
use Rattle.std.specs.Str.{bytes_eq}
use Rattle.std.specs.Str.Lossy.{utf8_lossy}
use Rattle.form_urlencoded.specs.Form.{decode, raw_pairs}
use Rattle.am_text.specs.Outcome.{◌>>=◌, outcome_map}
use Rattle.am_pattern.specs.Taking.{is_pattern}
use Rattle.am_match.specs.Checking.{pattern_refusal, unless_refused}
use Rattle.am_match.specs.Matchers.{MatcherText}
use Rattle.am_match.specs.Refusals.{matcher_code}
use Rattle.am_match.specs.declared.refusal.MatcherRefusal.{MatcherRefusal}
use Rattle.am_match.specs.declared.refusal.MatcherRefusal.TheVariants as matcher
use Rattle.am_config.specs.Matching.{meaning}
use Rattle.am_query.specs.declared.query.Kind.{Kind}
use Rattle.am_query.specs.declared.query.Kind.TheVariants.{Filter, Receiver, Flag, Unknown}
use Rattle.am_query.specs.declared.query.Parameter.{Parameter}
use Rattle.am_query.specs.declared.query.Query.{Query}
use Rattle.am_query.specs.declared.refusal.QueryRefusal.{QueryRefusal}
use Rattle.am_query.specs.declared.refusal.QueryRefusal.TheVariants.{BadFlag, BadMatcher}

-- a name or a value, decoded: `+` is a space, escapes are decoded, and what is no UTF-8 becomes U+FFFD
abbrev pub decoded : List ℕ → List ℕ
decoded bytes = utf8_lossy (decode bytes)

-- the name and the value that stand on the two sides of the first `=`
abbrev pub parameter_of : List ℕ × List ℕ → Parameter
parameter_of pair = record { name = decoded pair.0; value = decoded pair.1 }

-- the parameters of a query, in its order
unfoldable pub parameters_in : List ℕ → List Parameter
parameters_in query = map parameter_of (raw_pairs query)

-- ---- one parameter

-- a parameter that is `true` or `false`
abbrev pub is_flag : List ℕ → Bool
is_flag name =
    bytes_eq name (codes "active") || bytes_eq name (codes "silenced")
    || bytes_eq name (codes "inhibited") || bytes_eq name (codes "unprocessed")

unfoldable pub kind_of : List ℕ → Kind
kind_of name =
    if bytes_eq name (codes "filter") then Filter
    else if bytes_eq name (codes "receiver") then Receiver
    else if is_flag name then Flag
    else Unknown

-- a flag is `true` or `false`
abbrev pub flag_judged : List ℕ → Result (List MatcherText) QueryRefusal
flag_judged value = if bytes_eq value (codes "true") || bytes_eq value (codes "false") then Ok [] else Err BadFlag

-- what one parameter brings to the matchers: a `filter` those that its text means; the others none, but a `receiver`
-- must be a pattern, and a flag `true` or `false`; an unknown one may be anything
unfoldable pub judged : Kind → List ℕ → Result (List MatcherText) QueryRefusal
judged Filter value = outcome_map BadMatcher (meaning value)
judged Receiver value = outcome_map BadMatcher (unless_refused (pattern_refusal is_pattern (value ∷ [])) [])
judged Flag value = flag_judged value
judged Unknown value = Ok []

-- ---- all of them

-- the matchers of all filters; the first parameter that is refused refuses the query
unfoldable pub matchers_in : List Parameter → Result (List MatcherText) QueryRefusal
matchers_in [] = Ok []
matchers_in (parameter ∷ parameters) = do
  own ← judged (kind_of parameter.name) parameter.value
  others ← matchers_in parameters
  Ok (own ++ others)

-- the value of the last parameter of a name
abbrev pub last_value : List ℕ → List Parameter → Option (List ℕ)
last_value name parameters =
    option_map (λ (p : Parameter). p.value) (find (λ (p : Parameter). bytes_eq p.name name) (reverse parameters))

-- whether alerts of a kind are asked for, by the flag of this name: so they are where nothing is said
abbrev pub asks_for : List ℕ → List Parameter → Bool
asks_for name parameters = option_map_or (λ text. bytes_eq text (codes "true")) (last_value name parameters) true

-- what the parameters say together. Of one that is given again, but for `filter`, the last counts.
abbrev pub query_of : List Parameter → Result Query QueryRefusal
query_of parameters = matchers_in parameters >>= λ matchers. Ok (record {
  matchers = matchers;
  receiver = last_value (codes "receiver") parameters;
  active = asks_for (codes "active") parameters;
  silenced = asks_for (codes "silenced") parameters;
  inhibited = asks_for (codes "inhibited") parameters;
})

-- what a query asks of the alerts
unfoldable pub query_in : List ℕ → Result Query QueryRefusal
query_in query = query_of (parameters_in query)

-- ---- the alerts in their groups

-- parameters but `unprocessed`: of groups it is an unknown one, which says nothing
abbrev pub processed_among : List Parameter → List Parameter
processed_among parameters = filter (λ (p : Parameter). not (bytes_eq p.name (codes "unprocessed"))) parameters

-- what a query asks of the alerts in their groups
unfoldable pub group_query_in : List ℕ → Result Query QueryRefusal
group_query_in query = query_of (processed_among (parameters_in query))

-- ---- the silences

-- the filters among parameters: of the silences no other one asks anything
abbrev pub filters_among : List Parameter → List Parameter
filters_among parameters = filter (λ (p : Parameter). bytes_eq p.name (codes "filter")) parameters

-- the matchers of all filters of a query, where no filter is refused
unfoldable pub filters_in : List ℕ → Result (List MatcherText) QueryRefusal
filters_in query = matchers_in (filters_among (parameters_in query))

-- ---- refusals

-- the code of a refusal
abbrev pub code_of : QueryRefusal → List ℕ
code_of BadFlag = codes "P1"
code_of (BadMatcher refusal) = matcher_code refusal

-- the status code of a matcher that is refused
abbrev pub matcher_status : MatcherRefusal → ℕ
matcher_status matcher.NoMatchers = 400
matcher_status matcher.BadPattern = 400
matcher_status matcher.LongPattern = 400
matcher_status matcher.BuildRefused = 503

-- the status code of a refusal
abbrev pub status_of : QueryRefusal → ℕ
status_of BadFlag = 400
status_of (BadMatcher refusal) = matcher_status refusal
