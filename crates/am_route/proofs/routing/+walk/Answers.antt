use Rattle.std.proofs.Common.{◌≡◌, ◌∙◌, ◌+◌, true, false, IsSome, None, arith, sym}
use Rattle.std.proofs.lemmas.List.Elements.{All-get_or}
use Rattle.am_route.specs.Routes.{route_takes}
use Rattle.am_route.specs.Asked.{asked_among, asked_of}
use Rattle.am_draft.specs.Forests.{forest_of}
use Rattle.am_route.proofs.AskedLemmas.{below_asked, later_asked, own_asked, passed_asked}
use Rattle.am_pattern.proofs.AskingLemmas.{grows-stays, grows-trans, stays-trans}
use Rattle.am_route.proofs.KnownLemmas.{back_known, first_known, first_within, front_known, rest_known}
use Rattle.am_match.proofs.FailureLemmas.{AreAmong, asked_on, failure_of_part, handed_on}
use Rattle.am_route.proofs.RoutesLemmas.{head_of, passed, routes_none, taken_last, taken_on}
use Rattle.am_route.proofs.routing.+walk.Goals as goal
use Rattle.am_route.proofs.routing.+walk.Goals.{walk-then-branch+in_ok-enter+else-not-node, walk-else-branch}

pub walk-split_at-requires : goal.walk-split_at-requires
walk-split_at-requires t c =
    (head_of c.args.labels.now c.sibling.number c.sibling.rest.now c.in-Some.node.now c.in-Some.behind.now c.in-Some.ensures.cases.0 c.sibling.invariant.forest).fits

pub walk-enter-requires : goal.walk-enter-requires
walk-enter-requires t c =
    let head = head_of c.args.labels.now c.sibling.number c.sibling.rest.now c.in-Some.node.now c.in-Some.behind.now c.in-Some.ensures.cases.0 c.sibling.invariant.forest in
    let split = c.split_at.ensures in
    let behind = c.in-Some.ensures.cases.1 in
    let rest = rest_known c.args.labels.now c.sibling.rest.now c.sibling.number c.args.known.now c.in-Some.node.now c.in-Some.behind.now c.in-Some.ensures.cases.0 c.sibling.invariant.known in (
      omega (arith, split.front_len, split.back_len, behind),
      (
        rw split.front head.within,
        (
          rw split.front (front_known c.args.labels.now c.in-Some.behind.now (c.sibling.number + 1) c.args.known.now rest c.in-Some.node.now.within),
          omega (arith, split.front_len, split.back_len, behind),
        ),
      ),
    )

pub walk-bounds-known-number : goal.walk-bounds-known-number
walk-bounds-known-number t c =
    first_within c.args.labels.now c.sibling.rest.now c.sibling.number c.args.known.now c.in-Some.node.now c.in-Some.behind.now c.in-Some.ensures.cases.0 c.sibling.invariant.known

pub walk-takes-requires : goal.walk-takes-requires
walk-takes-requires t c =
    record { known = first_known c.args.labels.now c.sibling.rest.now c.sibling.number c.args.known.now c.in-Some.node.now c.in-Some.behind.now c.in-Some.ensures.cases.0 c.sibling.invariant.known }

pub walk-sibling-preserved : goal.walk-sibling-preserved
walk-sibling-preserved t c =
    let head = head_of c.args.labels.now c.sibling.number c.sibling.rest.now c.in-Some.node.now c.in-Some.behind.now c.in-Some.ensures.cases.0 c.sibling.invariant.forest in
    let split = c.split_at.ensures in
    let behind = c.in-Some.ensures.cases.1 in
    record {
      forest = rw split.back head.after;
      few = omega (arith, split.back_len, behind);
      known =
          let rest = rest_known c.args.labels.now c.sibling.rest.now c.sibling.number c.args.known.now c.in-Some.node.now c.in-Some.behind.now c.in-Some.ensures.cases.0 c.sibling.invariant.known in
          let place : c.sibling.number + 1 + c.in-Some.node.now.within ≡ c.sibling.number + (1 + c.in-Some.node.now.within) = omega arith in
          rw (split.back, ← place) (back_known c.args.labels.now c.in-Some.behind.now (c.sibling.number + 1) c.args.known.now rest c.in-Some.node.now.within);
      asked = elim c.if-branch.branch [
        | walk-then-branch+in_ok-enter+else-not-node w ↦
            let takes : route_takes c.in-Some.node.now.item c.args.labels.now ≡ true = sym c.in_ok-takes.ensures.value ∙ w.if-branch.true in
            rw split.back (λ matcher at. c.sibling.invariant.asked matcher (later_asked c.args.labels.now c.sibling.rest.now c.in-Some.node.now c.in-Some.behind.now c.in-Some.ensures.cases.0 c.sibling.invariant.forest takes w.if-not-node.false matcher at))
        | walk-else-branch w ↦
            let takes : route_takes c.in-Some.node.now.item c.args.labels.now ≡ false = sym c.in_ok-takes.ensures.value ∙ w.if-branch.false in
            rw split.back (λ matcher at. c.sibling.invariant.asked matcher (passed_asked c.args.labels.now c.sibling.rest.now c.in-Some.node.now c.in-Some.behind.now c.in-Some.ensures.cases.0 c.sibling.invariant.forest takes matcher at))
      ];
      shorter = omega (arith, split.back_len, behind);
      routes = elim c.if-branch.branch [
        | walk-then-branch+in_ok-enter+else-not-node w ↦
            let takes : route_takes c.in-Some.node.now.item c.args.labels.now ≡ true = sym c.in_ok-takes.ensures.value ∙ w.if-branch.true in
            rw (w.found-is, w.in_ok-enter.ensures.routes, split.front, split.back)
            (taken_on c.args.labels.now c.sibling.number c.sibling.rest.now c.in-Some.node.now c.in-Some.behind.now c.in-Some.ensures.cases.0 c.sibling.invariant.forest takes w.if-not-node.false c.sibling.found.items ∙ c.sibling.invariant.routes)
        | walk-else-branch w ↦
            let takes : route_takes c.in-Some.node.now.item c.args.labels.now ≡ false = sym c.in_ok-takes.ensures.value ∙ w.if-branch.false in
            rw (w.found-is, split.back)
            (passed c.args.labels.now c.sibling.number c.sibling.rest.now c.in-Some.node.now c.in-Some.behind.now c.in-Some.ensures.cases.0 c.sibling.invariant.forest takes c.sibling.found.items ∙ c.sibling.invariant.routes)
      ];
      stays =
          let first = stays-trans c.args.cache.now c.sibling.cache c.takes.new.cache c.sibling.invariant.stays c.in_ok-takes.ensures.asked in
          elim c.if-branch.branch [
            | walk-then-branch+in_ok-enter+else-not-node w ↦ rw w.cache-is (stays-trans c.args.cache.now c.takes.new.cache w.enter.new.cache first w.in_ok-enter.ensures.asked)
            | walk-else-branch w ↦ rw w.cache-is first
          ];
      untouched = λ sure.
          let told = All-get_or IsSome c.args.known.now c.sibling.number None (first_within c.args.labels.now c.sibling.rest.now c.sibling.number c.args.known.now c.in-Some.node.now c.in-Some.behind.now c.in-Some.ensures.cases.0 c.sibling.invariant.known) sure in
          let first = c.in_ok-takes.ensures.untouched told ∙ c.sibling.invariant.untouched sure in
          elim c.if-branch.branch [
            | walk-then-branch+in_ok-enter+else-not-node w ↦ rw w.cache-is (w.in_ok-enter.ensures.untouched sure ∙ first)
            | walk-else-branch w ↦ rw w.cache-is first
          ];
    }

pub walk-returns-then-not-node-clause-routes : goal.walk-returns-then-not-node-clause-routes
walk-returns-then-not-node-clause-routes t c =
    let takes : route_takes c.in-Some.node.now.item c.args.labels.now ≡ true = sym c.in_ok-takes.ensures.value ∙ c.if-branch.true in
    rw (c.in_ok-enter.ensures.routes, c.split_at.ensures.front)
    (taken_last c.args.labels.now c.sibling.number c.sibling.rest.now c.in-Some.node.now c.in-Some.behind.now c.in-Some.ensures.cases.0 c.sibling.invariant.forest takes c.if-not-node.true c.sibling.found.items ∙ c.sibling.invariant.routes)

pub walk-returns-in_default-clause-routes : goal.walk-returns-in_default-clause-routes
walk-returns-in_default-clause-routes t c =
    sym (routes_none c.args.labels.now c.sibling.number c.sibling.rest.now c.sibling.found.items c.in_default.ensures.cases) ∙ c.sibling.invariant.routes

pub walk-returns-in_err-takes-clause-failure : goal.walk-returns-in_err-takes-clause-failure
walk-returns-in_err-takes-clause-failure t c =
    let own = asked_of c.args.labels.now c.in-Some.node.now.item.matchers in
    let all = asked_among c.args.labels.now (forest_of c.args.nodes.now) in
    let among : AreAmong own all = λ matcher at. c.sibling.invariant.asked matcher (own_asked c.args.labels.now c.sibling.rest.now c.in-Some.node.now c.in-Some.behind.now c.in-Some.ensures.cases.0 c.sibling.invariant.forest matcher at) in
    handed_on _ c.from_residual.result c.in_err-takes.field-0.0 c.from_residual.ensures.1
    (failure_of_part own all c.args.cache.now c.sibling.cache c.takes.new.cache c.in_err-takes.field-0.0 among c.sibling.invariant.stays c.in_err-takes.ensures.failure)

pub walk-returns-in_err-takes-clause-asked : goal.walk-returns-in_err-takes-clause-asked
walk-returns-in_err-takes-clause-asked t c =
    asked_on c.from_residual.result c.in_err-takes.field-0.0 c.args.cache.now c.takes.new.cache c.from_residual.ensures.1
    (grows-trans c.args.cache.now c.sibling.cache c.takes.new.cache
    (grows-stays c.args.cache.now c.sibling.cache c.sibling.invariant.stays) c.in_err-takes.ensures.asked)

pub walk-returns-in_err-enter-clause-failure : goal.walk-returns-in_err-enter-clause-failure
walk-returns-in_err-enter-clause-failure t c =
    let takes : route_takes c.in-Some.node.now.item c.args.labels.now ≡ true = sym c.in_ok-takes.ensures.value ∙ c.if-branch.true in
    let among : AreAmong (asked_among c.args.labels.now (forest_of c.split_at.result.0.now)) (asked_among c.args.labels.now (forest_of c.args.nodes.now)) =
    rw c.split_at.ensures.front (λ matcher at. c.sibling.invariant.asked matcher (below_asked c.args.labels.now c.sibling.rest.now c.in-Some.node.now c.in-Some.behind.now c.in-Some.ensures.cases.0 c.sibling.invariant.forest takes matcher at)) in
    let stays = stays-trans c.args.cache.now c.sibling.cache c.takes.new.cache c.sibling.invariant.stays c.in_ok-takes.ensures.asked in
    handed_on _ c.from_residual-in_err-enter.result c.in_err-enter.field-0.0 c.from_residual-in_err-enter.ensures.1
    (failure_of_part (asked_among c.args.labels.now (forest_of c.split_at.result.0.now)) (asked_among c.args.labels.now (forest_of c.args.nodes.now)) c.args.cache.now c.takes.new.cache c.enter.new.cache c.in_err-enter.field-0.0 among stays c.in_err-enter.ensures.failure)

pub walk-returns-in_err-enter-clause-asked : goal.walk-returns-in_err-enter-clause-asked
walk-returns-in_err-enter-clause-asked t c =
    let stays = stays-trans c.args.cache.now c.sibling.cache c.takes.new.cache c.sibling.invariant.stays c.in_ok-takes.ensures.asked in
    asked_on c.from_residual-in_err-enter.result c.in_err-enter.field-0.0 c.args.cache.now c.enter.new.cache c.from_residual-in_err-enter.ensures.1
    (grows-trans c.args.cache.now c.takes.new.cache c.enter.new.cache
    (grows-stays c.args.cache.now c.takes.new.cache stays) c.in_err-enter.ensures.asked)
