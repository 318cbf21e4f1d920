use Rattle.std.proofs.Common.{◌≡◌, ◌∙◌, ◌+◌, ◌++◌, ◌∷◌, [], refl, rules, subst, sym, take}
use Rattle.std.proofs.lemmas.List.{take_all, take_more}
use Rattle.am_rows.proofs.Wearing.{caused_later, unworn, wears_then}
use Rattle.am_node.specs.Accepting.{accepted}
use Rattle.am_node.specs.Plans.{HoldsNoAlert}
use Rattle.am_node.proofs.Accepted.{planned_accepted}
use Rattle.am_pattern.proofs.AskingLemmas.{stays-refl, stays-trans}
use Rattle.am_node.proofs.Begun.{accepted_alertless, begun_more, blank_alertless, fresh, still_ahead}
use Rattle.am_node.proofs.Kept.{blank_planned}
use Rattle.am_node.proofs.Planned.{all_blank, made_keeps, made_planned}
use Rattle.am_node.proofs.parts.Parts.hold_each.Goals as goal

pub loop-tenant-init : goal.loop-tenant-init
loop-tenant-init g c = record {
  clean = λ clean. clean;
  opened = c.requires.«open»;
  keeps = λ clean t. refl;
  asked = stays-refl c.args.cache.now;
  planned = all_blank c.args.self.now blank_planned c.requires.blank;
  alertless = λ t. subst HoldsNoAlert (sym (c.requires.blank t)) blank_alertless;
  ahead = λ t none. c.requires.blank t;
  held = λ clean. c.requires.blank;
  wears = λ clean. unworn (g.R.Rows.medium c.args.store.now);
}

pub hold_rows-requires : goal.hold_rows-requires
hold_rows-requires g c = record {
  blank = c.loop-tenant.invariant.ahead c.tenant-item.result (fresh c.tenant-item.result c.args.names.now c.loop-tenant.tenant-index c.requires.order c.loop-tenant-test.true c.tenant-item.is);
  stored = c.in_ok-rows.ensures.stored;
}

pub loop-tenant-preserved : goal.loop-tenant-preserved
loop-tenant-preserved g c =
    let names = c.args.names.now in
    let i = c.loop-tenant.tenant-index in
    let n = c.tenant-item.result in
    let more : take (i + 1) names ≡ take i names ++ n ∷ [] = take_more names i n c.loop-tenant-test.true ∙ rw (← c.tenant-item.is) in
    rw more (record {
      clean = λ clean. c.loop-tenant.invariant.clean (c.rows_of.ensures.clean clean);
      opened = c.in_ok-rows.ensures.«open»;
      asked = stays-trans c.args.cache.now c.loop-tenant.cache c.hold_rows.new.cache c.loop-tenant.invariant.asked c.in_ok-hold_rows.ensures.asked;
      keeps = λ clean t. c.in_ok-rows.ensures.stays clean t ∙ c.loop-tenant.invariant.keeps (c.rows_of.ensures.clean clean) t;
      planned = made_planned n (accepted c.args.moment c.in_ok-rows.rows.items) c.loop-tenant.self c.hold_rows.new.self c.loop-tenant.invariant.planned c.in_ok-hold_rows.ensures.does
          (planned_accepted c.args.moment c.in_ok-rows.rows.items);
      alertless = made_keeps HoldsNoAlert n (accepted c.args.moment c.in_ok-rows.rows.items) c.loop-tenant.self c.hold_rows.new.self c.loop-tenant.invariant.alertless
          c.in_ok-hold_rows.ensures.does (accepted_alertless c.args.moment c.in_ok-rows.rows.items c.in_ok-rows.ensures.stored);
      ahead = λ t none. still_ahead n (take i names) t (accepted c.args.moment c.in_ok-rows.rows.items) c.loop-tenant.self c.hold_rows.new.self c.loop-tenant.invariant.ahead c.in_ok-hold_rows.ensures.does none;
      held = λ clean.
          begun_more n (take i names) c.args.moment c.in_ok-rows.rows.items (g.R.Rows.pairs c.args.store.now) c.loop-tenant.self c.hold_rows.new.self
          (c.loop-tenant.invariant.held (c.rows_of.ensures.clean clean)) (fresh n names i c.requires.order c.loop-tenant-test.true c.tenant-item.is)
          (c.in_ok-rows.ensures.rows clean ∙ c.loop-tenant.invariant.keeps (c.rows_of.ensures.clean clean) n) c.in_ok-hold_rows.ensures.does;
      wears = λ clean.
          wears_then (g.R.Rows.medium c.args.store.now) (g.R.Rows.medium c.loop-tenant.store) (g.R.Rows.medium c.rows_of.new.self)
          (c.loop-tenant.invariant.wears (c.rows_of.ensures.clean clean)) (c.rows_of.ensures.wears clean);
    })

pub returns-clause-planned : goal.returns-clause-planned
returns-clause-planned g c = record {
  planned = c.loop-tenant.invariant.planned;
  alertless = c.loop-tenant.invariant.alertless;
  others = rw (take_all c.loop-tenant.tenant-index c.args.names.now c.loop-tenant-test.false) at c.loop-tenant.invariant.ahead;
}

pub returns-clause-held : goal.returns-clause-held
returns-clause-held g c = λ clean. rw (take_all c.loop-tenant.tenant-index c.args.names.now c.loop-tenant-test.false) at (c.loop-tenant.invariant.held clean)

pub returns-in_err-rows-clause-fails : goal.returns-in_err-rows-clause-fails
returns-in_err-rows-clause-fails g c = λ clean.
    let caused = caused_later (g.R.Rows.medium c.args.store.now) (g.R.Rows.medium c.loop-tenant.store) (g.R.Rows.medium c.rows_of.new.self)
    (c.loop-tenant.invariant.wears (c.rows_of.ensures.clean clean)) (c.rows_of.ensures.wears clean) _ (c.in_err-rows.ensures.fails clean) in
    search rules

pub returns-in_err-rows-clause-wears : goal.returns-in_err-rows-clause-wears
returns-in_err-rows-clause-wears g c = λ clean.
    wears_then (g.R.Rows.medium c.args.store.now) (g.R.Rows.medium c.loop-tenant.store) (g.R.Rows.medium c.rows_of.new.self)
    (c.loop-tenant.invariant.wears (c.rows_of.ensures.clean clean)) (c.rows_of.ensures.wears clean)

pub returns-in_err-hold_rows-clause-wears : goal.returns-in_err-hold_rows-clause-wears
returns-in_err-hold_rows-clause-wears g c = λ clean.
    wears_then (g.R.Rows.medium c.args.store.now) (g.R.Rows.medium c.loop-tenant.store) (g.R.Rows.medium c.rows_of.new.self)
    (c.loop-tenant.invariant.wears (c.rows_of.ensures.clean clean)) (c.rows_of.ensures.wears clean)

pub returns-clause-left : goal.returns-clause-left
returns-clause-left g c = λ clean whole. c.loop-tenant.invariant.keeps clean

pub returns-in_err-rows-clause-left : goal.returns-in_err-rows-clause-left
returns-in_err-rows-clause-left g c = λ clean whole t.
    c.in_err-rows.ensures.err clean whole t ∙ c.loop-tenant.invariant.keeps (c.rows_of.ensures.clean clean) t

pub returns-in_err-hold_rows-clause-left : goal.returns-in_err-hold_rows-clause-left
returns-in_err-hold_rows-clause-left g c = λ clean whole t.
    c.in_ok-rows.ensures.stays clean t ∙ c.loop-tenant.invariant.keeps (c.rows_of.ensures.clean clean) t
