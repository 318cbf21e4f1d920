-- A connection whose bytes come in pieces.
use Rattle.std.specs.Prelude.{ℕ, List, [], ◌∷◌, ◌++◌}
use Rattle.am_http.specs.declared.request.Fed.{Fed}
use Rattle.am_http.specs.declared.request.Fed.TheVariants as fed
use Rattle.am_http.specs.Verdict.{verdict}

-- a verdict, or else what comes next
abbrev pub or_next : Fed → Fed → Fed
or_next fed.Waits next = next
or_next (fed.Refused refusal) next = fed.Refused refusal
or_next fed.Ready next = fed.Ready
or_next (fed.Request request) next = fed.Request request

-- what a connection comes to that has these bytes and then takes in these pieces, one after the other, until one of
-- them decides it
abbrev pub verdict_in_pieces : List ℕ → List (List ℕ) → Fed
verdict_in_pieces before [] = verdict before
verdict_in_pieces before (piece ∷ pieces) =
    or_next (verdict (before ++ piece)) (verdict_in_pieces (before ++ piece) pieces)
