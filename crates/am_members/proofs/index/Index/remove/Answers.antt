use Rattle.std.proofs.Common.{◌≡◌, ◌∙◌, ap, sym}
use Rattle.am_members.specs.Grouped.{Grouped, kept_after}
use Rattle.am_members.specs.Names.{is_set}
use Rattle.am_members.proofs.Flushes.{all_lost, all_stay, swept_after}
use Rattle.am_members.proofs.Tables.{all_left}
use Rattle.am_members.proofs.index.Index.remove.Goals as goal

pub invariant_of-self : goal.invariant_of-self
invariant_of-self c =
    let same : c.forget.new.alerts.entries ≡ c.self.inside.alerts.entries = c.in_err-known.ensures.left ∙ all_left (is_set c.args.labels.now) c.self.inside.alerts.entries (sym c.in_err-known.ensures.known) in
    record { grouped = c.in_err-known.ensures.grouped; full = c.in_err-known.ensures.full c.self.invariant.full; swept = λ swept q. rw same (c.self.invariant.swept swept q) }

pub returns-in_err-known-clause-flushes : goal.returns-in_err-known-clause-flushes
returns-in_err-known-clause-flushes c =
    let x : Grouped = record { alerts = c.self.inside.alerts.entries; flushes = c.self.inside.flushes.entries } in
    all_stay x c.args.labels.now (all_left (is_set c.args.labels.now) c.self.inside.alerts.entries (sym c.in_err-known.ensures.known))
    ∙ ap (kept_after c.args.labels.now) c.self.view_is

pub invariant_of-self-2 : goal.invariant_of-self-2
invariant_of-self-2 c =
    let x : Grouped = record { alerts = c.self.inside.alerts.entries; flushes = c.self.inside.flushes.entries } in
    let new = c.forget.new.alerts.entries in
    record {
      grouped = c.in_ok-known.ensures.grouped;
      full = c.in_ok-known.ensures.full c.self.invariant.full;
      swept = λ swept.
          swept_after x c.args.labels.now new c.forget_lost.new.flushes.entries (c.self.invariant.swept swept) c.in_ok-known.ensures.left
          (all_lost x new c.forget.new.groups.entries c.forget_lost.new.flushes.entries c.args.labels.now c.in_ok-known.known c.as_slice.result.now
          c.in_ok-known.ensures.grouped c.in_ok-known.ensures.left c.self.invariant.grouped.rising (sym c.in_ok-known.ensures.known) c.as_slice.ensures c.forget_lost.ensures);
    }

pub returns-clause-flushes : goal.returns-clause-flushes
returns-clause-flushes c =
    let x : Grouped = record { alerts = c.self.inside.alerts.entries; flushes = c.self.inside.flushes.entries } in
    all_lost x c.forget.new.alerts.entries c.forget.new.groups.entries c.forget_lost.new.flushes.entries c.args.labels.now c.in_ok-known.known c.as_slice.result.now
    c.in_ok-known.ensures.grouped c.in_ok-known.ensures.left c.self.invariant.grouped.rising (sym c.in_ok-known.ensures.known) c.as_slice.ensures c.forget_lost.ensures
    ∙ ap (kept_after c.args.labels.now) c.self.view_is
