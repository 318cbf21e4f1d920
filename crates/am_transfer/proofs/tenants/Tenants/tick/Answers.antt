use Rattle.std.proofs.Common.{◌≡◌, ℕ, List, Option, Some, ap, sym, ◌∙◌, rules, unwrap_or, if◌then◌else◌}
use Rattle.std.specs.BTreeMap.{get}
use Rattle.std.specs.BTreeMap.Entry.{map_with_value}
use Rattle.std.proofs.lemmas.Result.{IfOk-weaker, on_ok_weaker}
use Rattle.am_tenant.specs.Names.{same}
use Rattle.am_transfer.specs.Progress.{Progress}
use Rattle.am_transfer.specs.Tenants.{progress_of}
use Rattle.am_transfer.specs.Progress.{again_to, sent_again}
use Rattle.am_transfer.proofs.Table.{each_changed, entries_same, found_or_new, others_moved, others_stay, seen, tenants}
use Rattle.am_transfer.proofs.tenants.Tenants.tick.Goals as goal

pub invariant_of-self-2 : goal.invariant_of-self-2
invariant_of-self-2 c =
    let kept = c.in_ok-self-inside.ensures.update.2 c.tick.new.self in
    search rules

pub returns-clause-again : goal.returns-clause-again
returns-clause-again c =
    let entry = c.in_ok-self-inside.ensures in
    let m = c.self.inside.by_name in
    let was = c.or_insert-progress.result.now in
    let own : progress_of c.args.tenant.now m.entries ≡ was =
    seen c.args.tenant.now m ∙ found_or_new (get tenants m c.args.tenant.now) c.new.result was c.new.ensures
    (c.or_insert-progress.ensures.value ∙ ap (λ (o : Option Progress). unwrap_or o c.new.result) entry.value) in
    let there : progress_of c.args.tenant.now c.args.self.now ≡ was = ap (progress_of c.args.tenant.now) (sym c.self.view_is) ∙ own in
    IfOk-weaker c.tick.result _ _ (λ given is. is ∙ ap (λ (p : Progress). again_to c.args.to c.args.held.now p) (sym there)) c.tick.ensures.again

pub returns-clause-each : goal.returns-clause-each
returns-clause-each c =
    let entry = c.in_ok-self-inside.ensures in
    let m = c.self.inside.by_name in
    let was = c.or_insert-progress.result.now in
    let now = c.tick.new.self in
    let own : progress_of c.args.tenant.now m.entries ≡ was =
    seen c.args.tenant.now m ∙ found_or_new (get tenants m c.args.tenant.now) c.new.result was c.new.ensures
    (c.or_insert-progress.ensures.value ∙ ap (λ (o : Option Progress). unwrap_or o c.new.result) entry.value) in
    on_ok_weaker c.tick.result
    (λ is t.
    entries_same t _ (map_with_value c.in_ok-self-inside.field-0 now) _
    (each_changed m (map_with_value c.in_ok-self-inside.field-0 now) c.args.tenant.now (sent_again c.args.to c.args.moment c.args.held.now) was now (entry.update.0 now).0 own is t
    ∙ ap (λ (es : List (List ℕ × Progress)). if same t c.args.tenant.now then (sent_again c.args.to c.args.moment c.args.held.now) (progress_of t es) else progress_of t es) c.self.view_is)
    (search rules))
    c.tick.ensures.sent

pub returns-clause-others : goal.returns-clause-others
returns-clause-others c =
    let entry = c.in_ok-self-inside.ensures in
    let m = c.self.inside.by_name in
    let now = c.tick.new.self in
    rw (← c.self.view_is)
    (others_moved c.args.tenant.now m.entries _ (map_with_value c.in_ok-self-inside.field-0 now)
    (others_stay m (map_with_value c.in_ok-self-inside.field-0 now) c.args.tenant.now (Some now) c.self.invariant (entry.update.2 now) (entry.update.0 now).0)
    (search rules))
