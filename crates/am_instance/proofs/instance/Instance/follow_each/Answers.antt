use Rattle.std.proofs.Common.{◌≡◌, ◌∙◌, ◌+◌, ◌∷◌, ◌++◌, [], refl, sym, take}
use Rattle.std.proofs.lemmas.List.{take_all, take_more}
use Rattle.std.proofs.lemmas.Result.{err_from_is_err_and}
use Rattle.am_instance.specs.Changing.{started}
use Rattle.am_instance.specs.Here.{circumstances}
use Rattle.am_instance.proofs.Among.{all_among, none_among, one_among, one_stops_all}
use Rattle.am_instance.proofs.Blank.{started_blank}
use Rattle.am_instance.proofs.Following.{whole_followed}
use Rattle.am_instance.proofs.Noting.{fresh}
use Rattle.am_instance.proofs.Turns.{reads_same, reads_then}
use Rattle.am_instance.proofs.instance.Instance.follow_each.Goals as goal

pub loop-tenant-init : goal.loop-tenant-init
loop-tenant-init c = record {
  among = none_among (circumstances c.args.occasion.now) (λ t. started c.args.start.now) c.args.self.now
      c.new-told.result.items c.new-told.ensures.items;
  reads = reads_same c.args.self.now;
  refused = refl;
  tenants = refl;
  whole = c.requires.whole;
  node = refl;
}

pub follow-requires : goal.follow-requires
follow-requires c = c.loop-tenant.invariant.whole

pub loop-tenant-preserved : goal.loop-tenant-preserved
loop-tenant-preserved c =
    let around = circumstances c.args.occasion.now in
    let names = c.args.names.now in
    let i = c.loop-tenant.tenant-index in
    let n = c.tenant-item.result in
    let so_far = c.loop-tenant.invariant in
    let one = c.in_ok-follow.ensures.reacts in
    let more : take (i + 1) names ≡ take i names ++ n ∷ [] = take_more names i n c.loop-tenant-test.true ∙ rw (← c.tenant-item.is) in
    rw more (record {
      among = one_among around (λ t. started c.args.start.now) c.args.self.now (take i names) c.loop-tenant.self
          c.loop-tenant.told.items so_far.reads so_far.among n
          (fresh n names i c.requires.names.order c.loop-tenant-test.true c.tenant-item.is) c.follow.new.self
          c.follow.new.outputs.items one.reacts;
      reads = reads_then c.args.self.now c.loop-tenant.self c.follow.new.self so_far.reads c.follow.ensures.stays;
      refused = one.refused ∙ so_far.refused;
      tenants = one.tenants ∙ so_far.tenants;
      whole = whole_followed around c.args.start.now c.loop-tenant.self c.follow.new.self c.follow.ensures.stays n
          c.loop-tenant.told.items c.follow.new.outputs.items one so_far.whole;
      node = c.follow.ensures.node ∙ so_far.node;
    })

pub returns-in_err-follow-clause-cause : goal.returns-in_err-follow-clause-cause
returns-in_err-follow-clause-cause c =
    let names = c.args.names.now in
    let i = c.loop-tenant.tenant-index in
    let n = c.tenant-item.result in
    let so_far = c.loop-tenant.invariant in
    let p = err_from_is_err_and c.from_residual.result c.from_residual.ensures.1 in
    rw (p.1, p.2)
    (one_stops_all (circumstances c.args.occasion.now) (λ t. started c.args.start.now) c.args.self.now (take i names)
    c.loop-tenant.self c.loop-tenant.told.items so_far.reads so_far.among n
    (fresh n names i c.requires.names.order c.loop-tenant-test.true c.tenant-item.is) _ c.in_err-follow.ensures.cause)

pub returns-in_err-follow-clause-stays : goal.returns-in_err-follow-clause-stays
returns-in_err-follow-clause-stays c =
    reads_then c.args.self.now c.loop-tenant.self c.follow.new.self c.loop-tenant.invariant.reads c.follow.ensures.stays

pub returns-in_err-follow-clause-node : goal.returns-in_err-follow-clause-node
returns-in_err-follow-clause-node c = c.follow.ensures.node ∙ c.loop-tenant.invariant.node

pub returns-clause-reacts : goal.returns-clause-reacts
returns-clause-reacts c =
    let through = rw (take_all c.loop-tenant.tenant-index c.args.names.now c.loop-tenant-test.false) at c.loop-tenant.invariant in
    all_among (circumstances c.args.occasion.now) (λ t. started c.args.start.now) c.args.self.now c.args.names.now
    c.loop-tenant.self c.loop-tenant.told.items [] c.loop-tenant.told.items c.requires.names c.requires.whole.noted
    (λ t. started_blank c.args.start.now) through.among refl through.refused
