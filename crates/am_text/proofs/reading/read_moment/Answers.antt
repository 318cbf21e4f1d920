use Rattle.std.proofs.Common.{◌≡◌, ◌∙◌, ap, refl, ok_or, Err, Ok, Some, None, Result, Option, ℕ, to_z-of_z, w64, FitsSigned, rules}
use Rattle.std.specs.Prelude.{OnOk}
use Rattle.am_text.specs.declared.refusal.TextRefusal.{TextRefusal}
use Rattle.am_text.specs.declared.refusal.TextRefusal.TheVariants.{NotAMoment}
use Rattle.am_text.specs.Reading.{instant_of, moment_of}
use Rattle.am_text.proofs.RoundTrip.{spelled_gives, printed_gives, only_spelled}
use Rattle.am_text.proofs.reading.read_moment.Goals as goal

-- a fact holds of whatever result
OnOk_whatever : (r : Result (Option ℕ) TextRefusal) {P : Type 0} → P → OnOk r P
OnOk_whatever (Ok x) p = p
OnOk_whatever (Err e) p = tt

-- the result is the moment of the text
some_exact : (c : goal.After-moment_at) → c.moment_at.result ≡ ok_or (moment_of c.args.text.now) NotAMoment
unfolding moment_of
some_exact c =
    let fits : FitsSigned w64 c.in-Some.instant = search rules in
    let read : Some c.in-Some.instant ≡ instant_of c.args.text.now = c.in-Some.ensures ∙ ap instant_of c.as_bytes.ensures.value in
    c.moment_at.ensures ∙ rw (to_z-of_z fits, ← read) refl

-- the refusal is for a text without one
none_exact : (c : goal.In-None) → Err NotAMoment ≡ ok_or (moment_of c.args.text.now) NotAMoment
unfolding moment_of
none_exact c =
    let read : None ≡ instant_of c.args.text.now = c.in-None.ensures ∙ ap instant_of c.as_bytes.ensures.value in
    rw (← read) refl

pub returns-in-Some-clause-spelled : goal.returns-in-Some-clause-spelled
returns-in-Some-clause-spelled c =
    spelled_gives NotAMoment c.args.text.now c.moment_at.result (some_exact c)

pub returns-in-Some-clause-printed : goal.returns-in-Some-clause-printed
returns-in-Some-clause-printed c =
    printed_gives NotAMoment c.args.text.now c.moment_at.result (some_exact c)

pub returns-in-Some-clause-only : goal.returns-in-Some-clause-only
returns-in-Some-clause-only c =
    OnOk_whatever c.moment_at.result (only_spelled c.args.text.now c.in-Some.instant (c.in-Some.ensures ∙ ap instant_of c.as_bytes.ensures.value))

pub returns-in-None-clause-spelled : goal.returns-in-None-clause-spelled
returns-in-None-clause-spelled c =
    spelled_gives NotAMoment c.args.text.now (Err NotAMoment) (none_exact c)

pub returns-in-None-clause-printed : goal.returns-in-None-clause-printed
returns-in-None-clause-printed c =
    printed_gives NotAMoment c.args.text.now (Err NotAMoment) (none_exact c)
