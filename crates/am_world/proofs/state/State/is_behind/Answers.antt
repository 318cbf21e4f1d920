use Rattle.std.proofs.Common.{◌≡◌, ◌∙◌, ◌-◌, false, length, refl, true}
use Rattle.am_world.specs.Places.{known_at}
use Rattle.am_world.proofs.LearnStep.{learn_tested, up_known}
use Rattle.am_world.proofs.Rostered.{rings_some}
use Rattle.am_world.proofs.state.State.is_behind.Goals as goal

pub newest_epoch-requires : goal.newest_epoch-requires
newest_epoch-requires c = rings_some c.args.self.now c.requires

pub returns-then-is_some : goal.returns-then-is_some
returns-then-is_some c =
    let w = c.args.self.now in
    let i = c.args.instance in
    let up = up_known w i c.up.result c.is_some.result c.is_some.ensures c.up.ensures.up c.up.ensures.none in
    learn_tested w i true c.known.result c.newest_epoch.result (up ∙ c.if-is_some.true) c.known.ensures
    c.newest_epoch.ensures

pub returns-else-is_some : goal.returns-else-is_some
returns-else-is_some c =
    let w = c.args.self.now in
    let i = c.args.instance in
    let up = up_known w i c.up.result c.is_some.result c.is_some.ensures c.up.ensures.up c.up.ensures.none in
    c.if-is_some.false
    ∙ learn_tested w i false (known_at i w.instances) (length w.common.rings.items - 1) (up ∙ c.if-is_some.false) refl
    refl
