use Rattle.std.proofs.Common.{ap, sym, ◌∙◌, Ok, length, length-append, arith}
use Rattle.am_match.specs.Spelling.{spelling}
use Rattle.am_match.proofs.RoundTrip.{taken_spells, front_cut, same_of_taken, never_fails}
use Rattle.am_match.proofs.taking.take_matchers.Goals as goal

pub overflow_sub-result : goal.overflow_sub-result
overflow_sub-result c =
    let spells = taken_spells _ _ _ (λ k. (c.type_inv.bytes k).fits) c.in-Ok.ensures in
    omega (arith, length-append (spelling c.in-Ok.matchers.items) c.in-Ok.rest.now, ap length spells.0)

pub returns-in-Ok-clause-taken : goal.returns-in-Ok-clause-taken
returns-in-Ok-clause-taken c =
    let spells = taken_spells _ _ _ (λ k. (c.type_inv.bytes k).fits) c.in-Ok.ensures in
    c.in-Ok.ensures ∙ ap (λ r. Ok (c.in-Ok.matchers.items, r)) (sym (front_cut _ (spelling c.in-Ok.matchers.items) c.in-Ok.rest.now spells.0).2)

pub returns-in-Ok-clause-spells : goal.returns-in-Ok-clause-spells
returns-in-Ok-clause-spells c =
    let spells = taken_spells _ _ _ (λ k. (c.type_inv.bytes k).fits) c.in-Ok.ensures in
    rw (front_cut _ (spelling c.in-Ok.matchers.items) c.in-Ok.rest.now spells.0).1 spells.1

pub returns-in-Ok-clause-written : goal.returns-in-Ok-clause-written
returns-in-Ok-clause-written c =
    λ ms written rest spells e. same_of_taken c.args.bytes.now _ _ ms written rest c.in-Ok.ensures spells e

pub returns-in-Err-clause-written : goal.returns-in-Err-clause-written
returns-in-Err-clause-written c =
    λ ms written rest spells e. never_fails c.args.bytes.now _ ms written rest c.in-Err.ensures spells e
