use Rattle.std.proofs.Common.{ap, sym, ◌∙◌}
use Rattle.am_transfer.specs.Progress.{Progress, on}
use Rattle.am_transfer.specs.Progress.{after_got, is_got}
use Rattle.am_transfer.proofs.Named.{nothing_named}
use Rattle.am_transfer.proofs.Table.{each_none, each_written, no_entry, others_written, own_entry}
use Rattle.am_transfer.proofs.tenants.Tenants.got.Goals as goal

pub returns-in_default-clause-counts : goal.returns-in_default-clause-counts
returns-in_default-clause-counts c =
    rw (← c.self.view_is)
    (sym (ap (λ (p : Progress). is_got c.args.from c.args.present p.settling) (no_entry c.self.inside.by_name c.args.tenant.now c.in_default.ensures.value)))

pub returns-in_default-clause-each : goal.returns-in_default-clause-each
returns-in_default-clause-each c =
    rw (c.get_mut.follows.holds-at-none, ← c.self.view_is)
    (each_none c.self.inside.by_name c.args.tenant.now (on (after_got c.args.from c.args.present c.args.place)) c.in_default.ensures.value
    (nothing_named c.args.from c.args.present c.args.place))

pub returns-clause-counts : goal.returns-clause-counts
returns-clause-counts c =
    rw (← c.self.view_is) (c.got.ensures.counts
    ∙ sym (ap (λ (p : Progress). is_got c.args.from c.args.present p.settling) (own_entry c.self.inside.by_name c.args.tenant.now c.in-Some.progress.now c.in-Some.ensures.value)))

pub returns-clause-each : goal.returns-clause-each
returns-clause-each c =
    let now = c.got.new.self in
    rw (← c.self.view_is)
    (each_written c.self.inside.by_name (c.get_mut.follows.lender now) c.args.tenant.now (on (after_got c.args.from c.args.present c.args.place))
    c.in-Some.progress.now now c.in-Some.ensures.value (c.get_mut.follows.holds now) c.got.ensures.named)

pub returns-clause-others : goal.returns-clause-others
returns-clause-others c =
    let now = c.got.new.self in
    rw (← c.self.view_is)
    (others_written c.self.inside.by_name (c.get_mut.follows.lender now) c.args.tenant.now c.in-Some.progress.now now c.in-Some.ensures.value
    (c.get_mut.follows.holds now) c.self.invariant)
