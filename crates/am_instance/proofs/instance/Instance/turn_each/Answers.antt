use Rattle.std.proofs.Common.{◌≡◌, ◌∙◌, ◌+◌, ◌∷◌, ◌++◌, [], refl, sym, take}
use Rattle.std.proofs.lemmas.List.{take_all, take_more}
use Rattle.std.proofs.lemmas.Result.{err_from_is_err_and}
use Rattle.am_rows.proofs.Wearing.{unworn, wears_then}
use Rattle.am_instance.specs.Changing.{turning}
use Rattle.am_instance.specs.Here.{circumstances}
use Rattle.am_instance.specs.Shelves.{shelf_of}
use Rattle.am_instance.proofs.Among.{all_among}
use Rattle.am_instance.proofs.Blank.{learned_blank}
use Rattle.am_instance.proofs.Noting.{fresh, is_there}
use Rattle.am_instance.proofs.Turning.{left_all, left_turned, none_turned, one_turned, stops_turning, whole_turned}
use Rattle.am_instance.proofs.Turns.{reads_same, reads_then}
use Rattle.am_instance.proofs.instance.Instance.turn_each.Goals as goal

pub loop-tenant-init : goal.loop-tenant-init
loop-tenant-init g c = record {
  through = none_turned (circumstances c.args.occasion.now) c.args.before.now.instances c.args.self.now c.requires.may
      c.new-told.result.items c.new-told.ensures.items (reads_same c.args.self.now);
  clean = λ clean. clean;
  backed = c.requires.backed;
  wears = λ clean. unworn (g.R.Rows.medium c.args.store.now);
}

pub turn-requires : goal.turn-requires
turn-requires g c =
    let reads = c.loop-tenant.invariant.through.reads in
    record {
      up = reads.goes.up ∙ c.requires.up;
      known = rw reads.goes.known c.requires.may.known;
      backed = c.loop-tenant.invariant.backed;
    }

pub loop-tenant-preserved : goal.loop-tenant-preserved
loop-tenant-preserved g c =
    let names = c.args.names.now in
    let i = c.loop-tenant.tenant-index in
    let n = c.tenant-item.result in
    let so_far = c.loop-tenant.invariant in
    let m = g.R.Rows.medium in
    let more : take (i + 1) names ≡ take i names ++ n ∷ [] = take_more names i n c.loop-tenant-test.true ∙ rw (← c.tenant-item.is) in
    rw more (record {
      through = one_turned (circumstances c.args.occasion.now) c.args.before.now.instances c.args.self.now c.requires.may
          (take i names) c.loop-tenant.self c.loop-tenant.told.items so_far.through n
          (fresh n names i c.requires.names.order c.loop-tenant-test.true c.tenant-item.is) c.turn.new.self
          c.turn.new.outputs.items c.in_ok-turn.ensures.turns
          (reads_then c.args.self.now c.loop-tenant.self c.turn.new.self so_far.through.reads c.turn.ensures.stays);
      clean = λ clean. so_far.clean (c.turn.ensures.clean clean);
      backed = c.in_ok-turn.ensures.backed;
      wears = λ clean.
          wears_then (m c.args.store.now) (m c.loop-tenant.store) (m c.turn.new.store)
          (so_far.wears (c.turn.ensures.clean clean)) (c.turn.ensures.wears clean);
    })

-- ---- one stopped it

pub returns-in_err-turn-clause-cause : goal.returns-in_err-turn-clause-cause
returns-in_err-turn-clause-cause g c =
    let names = c.args.names.now in
    let i = c.loop-tenant.tenant-index in
    let n = c.tenant-item.result in
    let p = err_from_is_err_and c.from_residual.result c.from_residual.ensures.1 in
    rw (p.1, p.2)
    (stops_turning (circumstances c.args.occasion.now) c.args.before.now.instances c.args.self.now c.requires.may
    (take i names) c.loop-tenant.self c.loop-tenant.told.items c.loop-tenant.invariant.through n
    (fresh n names i c.requires.names.order c.loop-tenant-test.true c.tenant-item.is)
    (rw (← c.requires.names.all) (is_there n names i c.loop-tenant-test.true c.tenant-item.is)) _ _ c.in_err-turn.ensures.cause)

pub returns-in_err-turn-clause-stays : goal.returns-in_err-turn-clause-stays
returns-in_err-turn-clause-stays g c =
    reads_then c.args.self.now c.loop-tenant.self c.turn.new.self c.loop-tenant.invariant.through.reads c.turn.ensures.stays

pub returns-in_err-turn-clause-clean : goal.returns-in_err-turn-clause-clean
returns-in_err-turn-clause-clean g c clean = c.loop-tenant.invariant.clean (c.turn.ensures.clean clean)

pub returns-in_err-turn-clause-left : goal.returns-in_err-turn-clause-left
returns-in_err-turn-clause-left g c clean =
    let names = c.args.names.now in
    let i = c.loop-tenant.tenant-index in
    let n = c.tenant-item.result in
    let s = shelf_of g.R.Rows in
    let p = err_from_is_err_and c.from_residual.result c.from_residual.ensures.1 in
    rw (p.1, p.2)
    (left_turned (circumstances c.args.occasion.now) c.args.before.now.instances c.args.self.now c.requires.may
    (take i names) c.loop-tenant.self c.loop-tenant.told.items c.loop-tenant.invariant.through n
    (fresh n names i c.requires.names.order c.loop-tenant-test.true c.tenant-item.is)
    (s c.args.store.now) (s c.loop-tenant.store) (s c.turn.new.store) _
    (c.loop-tenant.invariant.wears (c.turn.ensures.clean clean)) (c.turn.ensures.wears clean) (c.in_err-turn.ensures.left clean))

-- ---- all went well

pub returns-clause-reacts : goal.returns-clause-reacts
returns-clause-reacts g c =
    let through = rw (take_all c.loop-tenant.tenant-index c.args.names.now c.loop-tenant-test.false) at c.loop-tenant.invariant.through in
    all_among (circumstances c.args.occasion.now) (turning c.args.before.now.instances) c.args.self.now c.args.names.now
    c.loop-tenant.self c.loop-tenant.told.items [] c.loop-tenant.told.items c.requires.names c.requires.may.noted
    (λ t. learned_blank _) through.among refl through.refused

pub returns-clause-stays : goal.returns-clause-stays
returns-clause-stays g c = c.loop-tenant.invariant.through.reads

pub returns-clause-whole : goal.returns-clause-whole
returns-clause-whole g c =
    let through = rw (take_all c.loop-tenant.tenant-index c.args.names.now c.loop-tenant-test.false) at c.loop-tenant.invariant.through in
    whole_turned (circumstances c.args.occasion.now) c.args.before.now.instances c.args.self.now c.requires.may
    c.args.names.now c.loop-tenant.self c.loop-tenant.told.items through c.requires.names

pub returns-clause-left : goal.returns-clause-left
returns-clause-left g c clean =
    let through = rw (take_all c.loop-tenant.tenant-index c.args.names.now c.loop-tenant-test.false) at c.loop-tenant.invariant.through in
    left_all (circumstances c.args.occasion.now) c.args.before.now.instances c.args.self.now c.requires.may
    c.args.names.now c.loop-tenant.self c.loop-tenant.told.items through c.requires.names (shelf_of g.R.Rows c.args.store.now)
    (shelf_of g.R.Rows c.loop-tenant.store) (through.reads.goes.up ∙ c.requires.up) clean c.loop-tenant.invariant.backed
