use Rattle.std.proofs.Common.{◌≡◌, Some, None, is_some, Result, Ok, Err, OnErr, rules, ap, string_bytes}
use Rattle.std.specs.Map.{lookup}
use Rattle.am_pattern.proofs.KeptLemmas.{is_of, kept-lookup, texts-promoted, sound-promoted, size-sound, built-found}
use Rattle.am_pattern.proofs.ReadLemmas.{pattern-shallow}
use Rattle.am_pattern.proofs.cache.PatternCache.recall.Goals as goal

pub returns-in_default-clause-hit : goal.returns-in_default-clause-hit
returns-in_default-clause-hit c =
    let none : lookup (is_of string_bytes c.args.pattern.now) c.self.inside.built.entries ≡ None = search rules in
    rw (← c.self.view_is, kept-lookup string_bytes c.args.pattern.now c.self.inside.built.entries) (ap is_some none)

pub returns-in_default-clause-size : goal.returns-in_default-clause-size
returns-in_default-clause-size c =
    rw (← c.self.view_is) (size-sound string_bytes c.self.inside.built.entries c.self.inside.built.cap c.self.invariant)

pub returns-in_err-taken-clause-size : goal.returns-in_err-taken-clause-size
returns-in_err-taken-clause-size c =
    rw (← c.self.view_is) (size-sound string_bytes c.self.inside.built.entries c.self.inside.built.cap c.self.invariant)

-- what holds whatever the error is
on_err : {X E P : Type 0} (result : Result X E) → P → OnErr result P
on_err (Ok x) p = tt
on_err (Err e) p = p

pub returns-in_err-taken-clause-err_hit : goal.returns-in_err-taken-clause-err_hit
returns-in_err-taken-clause-err_hit c =
    let found : lookup (is_of string_bytes c.args.pattern.now) c.self.inside.built.entries ≡ Some c.in-Some.built.now = search rules in
    rw (← c.self.view_is, kept-lookup string_bytes c.args.pattern.now c.self.inside.built.entries) (on_err c.from_residual.result (ap is_some found))

pub invariant_of-self : goal.invariant_of-self
invariant_of-self c =
    let found : lookup (is_of string_bytes c.args.pattern.now) c.self.inside.built.entries ≡ Some c.in-Some.built.now = search rules in
    rw c.make_first.ensures
    (sound-promoted string_bytes c.args.pattern.now c.self.inside.built.entries c.in-Some.built.now c.self.inside.built.cap found c.self.invariant)

pub returns-clause-shallow : goal.returns-clause-shallow
returns-clause-shallow c =
    let found : lookup (is_of string_bytes c.args.pattern.now) c.self.inside.built.entries ≡ Some c.in-Some.built.now = search rules in
    (built-found string_bytes c.args.pattern.now c.self.inside.built.entries c.in-Some.built.now c.self.invariant.built found).0

pub returns-clause-regex : goal.returns-clause-regex
returns-clause-regex c =
    let found : lookup (is_of string_bytes c.args.pattern.now) c.self.inside.built.entries ≡ Some c.in-Some.built.now = search rules in
    (built-found string_bytes c.args.pattern.now c.self.inside.built.entries c.in-Some.built.now c.self.invariant.built found).2

pub returns-clause-is_pattern : goal.returns-clause-is_pattern
returns-clause-is_pattern c = pattern-shallow c.args.pattern.now (returns-clause-shallow c)

pub returns-clause-values : goal.returns-clause-values
returns-clause-values c =
    let found : lookup (is_of string_bytes c.args.pattern.now) c.self.inside.built.entries ≡ Some c.in-Some.built.now = search rules in
    let built = built-found string_bytes c.args.pattern.now c.self.inside.built.entries c.in-Some.built.now c.self.invariant.built found in
    rw built.1 at c.in_ok-taken.ensures

pub returns-clause-hit : goal.returns-clause-hit
returns-clause-hit c =
    let found : lookup (is_of string_bytes c.args.pattern.now) c.self.inside.built.entries ≡ Some c.in-Some.built.now = search rules in
    rw (← c.self.view_is, kept-lookup string_bytes c.args.pattern.now c.self.inside.built.entries) (ap is_some found)

pub returns-clause-kept : goal.returns-clause-kept
returns-clause-kept c =
    let found : lookup (is_of string_bytes c.args.pattern.now) c.self.inside.built.entries ≡ Some c.in-Some.built.now = search rules in
    rw (c.make_first.ensures, ← c.self.view_is)
    (texts-promoted string_bytes c.args.pattern.now c.self.inside.built.entries c.in-Some.built.now c.self.inside.built.cap found c.self.invariant.fits)

pub returns-clause-size : goal.returns-clause-size
returns-clause-size c = size-sound string_bytes c.make_first.new.built.entries c.make_first.new.built.cap (invariant_of-self c)
