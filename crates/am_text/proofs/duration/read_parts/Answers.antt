use Rattle.std.proofs.Common.{arith, ◌∙◌}
use Rattle.am_text.proofs.DurationLemmas.{parts_none, rest_more, sum_more}
use Rattle.am_text.proofs.duration.read_parts.Goals as goal

pub loop-unit-preserved : goal.loop-unit-preserved
loop-unit-preserved c =
    let part = c.read_part-milliseconds.ensures in
    let rest = rest_more c.args.units.now c.loop-unit.unit-index c.loop-unit.rest.now c.read_part-milliseconds.result.1.now c.loop-unit-test.true part.rest in
    let sum = sum_more c.args.units.now c.loop-unit.unit-index c.loop-unit.rest.now c.read_part-milliseconds.result.1.now c.loop-unit-test.true part.rest c.loop-unit.sum c.read_part-milliseconds.result.0 part.value in
    record {
      fits = omega arith;
      value = rw c.saturating_add-sum.ensures (sum ∙ c.loop-unit.invariant.value);
      rest = rest ∙ c.loop-unit.invariant.rest;
    }

pub returns-clause-value : goal.returns-clause-value
returns-clause-value c =
    let none = parts_none c.args.units.now c.loop-unit.unit-index c.loop-unit.rest.now c.loop-unit-test.false in
    let sum = rw none at c.loop-unit.invariant.value in
    omega arith

pub returns-clause-rest : goal.returns-clause-rest
returns-clause-rest c =
    let none = parts_none c.args.units.now c.loop-unit.unit-index c.loop-unit.rest.now c.loop-unit-test.false in
    rw none at c.loop-unit.invariant.rest
