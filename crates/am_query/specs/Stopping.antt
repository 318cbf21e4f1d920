-- Where the judging of a query's parameters, one after another, stops.
use Rattle.std.specs.Prelude.{◌≡◌, ℕ, Bool, true, List, [], ◌∷◌, ◌++◌, Err, chars, is_ok}
use Rattle.std.specs.List.{list_all}
use Rattle.am_text.specs.Outcome.{MatchFailure}
use Rattle.am_text.specs.declared.failure.Failure.{Failure}
use Rattle.am_pattern.specs.Asking.{Stays}
use Rattle.am_pattern.specs.Cache.{Cache}
use Rattle.am_pattern.specs.Taking.{is_shallow}
use Rattle.am_match.specs.Checking.{IsPatternRefusal, IsTextRefusal}
use Rattle.am_match.specs.Reading.{matchers_of}
use Rattle.am_config.specs.Matching.{reads_matchers}
use Rattle.am_query.specs.declared.query.Kind.{Kind}
use Rattle.am_query.specs.declared.query.Kind.TheVariants.{Filter, Receiver, Flag, Unknown}
use Rattle.am_query.specs.declared.query.Parameter.{Parameter}
use Rattle.am_query.specs.declared.refusal.QueryRefusal.{QueryRefusal}
use Rattle.am_query.specs.declared.refusal.QueryRefusal.TheVariants.{BadFlag, BadMatcher}
use Rattle.am_query.specs.Queries.{flag_judged, kind_of}

-- a parameter passes by the grammars alone: a pattern that nests too deep to be built is taken for none
abbrev pub passes : Kind → List ℕ → Bool
passes Filter value = reads_matchers value
passes Receiver value = is_shallow value
passes Flag value = is_ok (flag_judged value)
passes Unknown value = true

abbrev pub is_fine : Parameter → Bool
is_fine parameter = passes (kind_of parameter.name) parameter.value

-- Why a parameter is refused: a filter for its text, a receiver as a pattern, a flag where it isn't `true` or `false`. The
-- refused patterns are then the old ones and perhaps one of its.
abbrev pub IsParameterRefusal : Kind → List ℕ → Cache → Cache → QueryRefusal → Type 0
IsParameterRefusal Filter value old new BadFlag = ⊥
IsParameterRefusal Filter value old new (BadMatcher refusal) = IsTextRefusal (matchers_of (chars value)) old new refusal
IsParameterRefusal Receiver value old new BadFlag = ⊥
IsParameterRefusal Receiver value old new (BadMatcher refusal) = IsPatternRefusal (value ∷ []) old new refusal
IsParameterRefusal Flag value old new BadFlag = (flag_judged value ≡ Err BadFlag) × Stays old new
IsParameterRefusal Flag value old new (BadMatcher refusal) = ⊥
IsParameterRefusal Unknown value old new refusal = ⊥

-- or memory ran out
abbrev pub IsParameterFailure : Kind → List ℕ → Cache → Cache → Failure QueryRefusal → Type 0
IsParameterFailure kind value old new failure =
    MatchFailure failure (IsParameterRefusal kind value old new) (Stays old new)

-- At the first parameter that is refused: those before it pass, their patterns built.
pub record StopsAt (parameters : List Parameter) (refusal : QueryRefusal) (old new : Cache) : Type 0 where
  pub front : List Parameter
  pub parameter : Parameter
  pub back : List Parameter
  pub order : parameters ≡ front ++ parameter ∷ back
  pub before : list_all is_fine front ≡ true
  pub is_refusal : IsParameterRefusal (kind_of parameter.name) parameter.value old new refusal

-- the judging stops there, or memory ran out
abbrev pub IsStopOf : List Parameter → Cache → Cache → Failure QueryRefusal → Type 0
IsStopOf parameters old new failure = MatchFailure failure (λ refusal. StopsAt parameters refusal old new) (Stays old new)
