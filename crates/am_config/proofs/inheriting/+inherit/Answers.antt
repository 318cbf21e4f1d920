use Rattle.std.proofs.Common.{◌∙◌, arith, sym}
use Rattle.am_config.proofs.Inherits.{head_of, inherited_first, inherited_none}
use Rattle.am_config.proofs.inheriting.+inherit.Goals as goal

pub split_at-requires : goal.split_at-requires
split_at-requires t c =
    (head_of c.sibling.number c.args.around c.sibling.rest.now c.in-Some.node.now c.in-Some.behind.now c.in-Some.ensures.cases.0 c.sibling.invariant.forest).fits

pub inherit-requires : goal.inherit-requires
inherit-requires t c =
    let head = head_of c.sibling.number c.args.around c.sibling.rest.now c.in-Some.node.now c.in-Some.behind.now c.in-Some.ensures.cases.0 c.sibling.invariant.forest in
    let split = c.split_at.ensures in
    let behind = c.in-Some.ensures.cases.1 in
    (omega (arith, split.front_len, split.back_len, behind), (rw split.front head.within, omega (arith, split.front_len, split.back_len, behind)))

pub sibling-preserved : goal.sibling-preserved
sibling-preserved t c =
    let head = head_of c.sibling.number c.args.around c.sibling.rest.now c.in-Some.node.now c.in-Some.behind.now c.in-Some.ensures.cases.0 c.sibling.invariant.forest in
    let split = c.split_at.ensures in
    let behind = c.in-Some.ensures.cases.1 in
    record {
      forest = rw split.back head.after;
      few = omega (arith, split.back_len, behind);
      shorter = omega (arith, split.back_len, behind);
      settings =
          rw (c.in_ok-inherit.ensures, c.in_ok-push.ensures.items, c.with_own-own.ensures, split.front, split.back)
          (inherited_first c.sibling.number c.args.around c.sibling.rest.now c.in-Some.node.now c.in-Some.behind.now c.in-Some.ensures.cases.0
          c.sibling.invariant.forest c.sibling.settings.items ∙ c.sibling.invariant.settings);
    }

pub returns : goal.returns
returns t c =
    sym (inherited_none c.sibling.number c.args.around c.sibling.rest.now c.sibling.settings.items c.in_default.ensures.cases) ∙ c.sibling.invariant.settings
