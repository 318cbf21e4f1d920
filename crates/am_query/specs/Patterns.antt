-- The patterns that queries ask, and whether a build of one was refused.
use Rattle.std.specs.Prelude.{◌≡◌, ℕ, true, List, [], ◌∷◌, ◌++◌, All, chars}
use Rattle.std.specs.List.{Contains, flat_map}
use Rattle.std.specs.Option.{ForSome, option_to_list}
use Rattle.am_pattern.specs.Refused.{has_text}
use Rattle.am_pattern.specs.Taking.{IsPattern}
use Rattle.am_match.specs.Checking.{patterns_in}
use Rattle.am_match.specs.Matchers.{patterns_of}
use Rattle.am_match.specs.Reading.{matchers_of}
use Rattle.am_query.specs.declared.query.Kind.{Kind}
use Rattle.am_query.specs.declared.query.Kind.TheVariants.{Filter, Receiver, Flag, Unknown}
use Rattle.am_query.specs.declared.query.Parameter.{Parameter}
use Rattle.am_query.specs.declared.query.Query.{Query}
use Rattle.am_query.specs.Queries.{filters_among, kind_of, parameters_in, processed_among}

-- one of these texts is a pattern, and stands among those that were refused a build
abbrev pub HasRefused : List (List ℕ) → List (List ℕ) → Type 0
HasRefused refused texts =
    (text : List ℕ) × (Contains texts text × (IsPattern text × (has_text refused text ≡ true)))

-- the texts that a parameter has as patterns: the values of matchers on patterns, or its own value
abbrev pub patterns_as : Kind → List ℕ → List (List ℕ)
patterns_as Filter value = patterns_in (matchers_of (chars value))
patterns_as Receiver value = value ∷ []
patterns_as Flag value = []
patterns_as Unknown value = []

-- those of parameters, in their order
abbrev pub patterns_of_parameters : List Parameter → List (List ℕ)
patterns_of_parameters parameters =
    flat_map (λ (parameter : Parameter). patterns_as (kind_of parameter.name) parameter.value) parameters

-- those of a query
unfoldable pub patterns_of_query : List ℕ → List (List ℕ)
patterns_of_query query = patterns_of_parameters (parameters_in query)

-- those of a query of the alerts in their groups
unfoldable pub patterns_of_group_query : List ℕ → List (List ℕ)
patterns_of_group_query query = patterns_of_parameters (processed_among (parameters_in query))

-- those of its filters alone
unfoldable pub patterns_of_filters : List ℕ → List (List ℕ)
patterns_of_filters query = patterns_of_parameters (filters_among (parameters_in query))

-- those that alerts are asked by, once the query was read
abbrev pub patterns_asked : Query → List (List ℕ)
patterns_asked query = patterns_of query.matchers ++ option_to_list query.receiver

-- the texts of one list are among those of another
abbrev pub Among : List (List ℕ) → List (List ℕ) → Type 0
Among xs ys = (text : List ℕ) → Contains xs text → Contains ys text

-- what alerts are asked by are patterns, and among these texts
pub record IsAsked (q : Query) (texts : List (List ℕ)) : Type 0 where
  pub matchers : All IsPattern (patterns_of q.matchers)
  pub receiver : ForSome q.receiver IsPattern
  pub among : Among (patterns_asked q) texts
