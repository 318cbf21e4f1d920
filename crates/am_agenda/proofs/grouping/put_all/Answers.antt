use Rattle.std.proofs.Common.{◌≡◌, [], cond, ap, ◌∙◌, subst}
use Rattle.std.proofs.lemmas.Result.{on_ok_weaker}
use Rattle.am_tenant.proofs.Same.{same-refl}
use Rattle.am_members.specs.Grouped.{grouped_of}
use Rattle.am_members.specs.Members.{gave}
use Rattle.am_timer.specs.Tied.{has_timer}
use Rattle.am_timer.specs.Timer.{Timer}
use Rattle.am_agenda.specs.Paces.{paces_of}
use Rattle.am_agenda.specs.Plan.{all_groups}
use Rattle.am_agenda.specs.Planned.{flush_due_of, is_for_one}
use Rattle.am_agenda.proofs.grouping.put_all.Goals as goal

pub returns-in-Some-clause-timers : goal.returns-in-Some-clause-timers
returns-in-Some-clause-timers c =
    let t = c.args.tenant.now in
    let grouped = grouped_of t c.rebuild.new.self in
    let old = c.args.timers.now.timers in
    let paces_are : c.of.result.now ≡ c.args.paces = c.of.ensures ∙ c.in_ok-set.ensures.set t ∙ ap (λ b. cond b c.args.paces (paces_of t c.args.book.now)) (same-refl t) in
    let alerts_are : c.in-Some.alerts.now.entries ≡ c.args.list.items =
    c.in-Some.ensures ∙ c.in_ok-rebuild.ensures.alerts t ∙ ap (λ b. cond b c.args.list.items (grouped_of t c.args.groups.now).alerts) (same-refl t) in
    on_ok_weaker c.refresh_alerts.result
    (λ set. subst (λ ps. (x : Timer) → has_timer c.refresh_alerts.new.timers.timers x ≡ cond (is_for_one t ps (all_groups c.args.list.items) x) (gave (flush_due_of ps grouped x.name.key) x.due) (has_timer old x)) paces_are
    (subst (λ es. (x : Timer) → has_timer c.refresh_alerts.new.timers.timers x ≡ cond (is_for_one t c.of.result.now (all_groups es) x) (gave (flush_due_of c.of.result.now grouped x.name.key) x.due) (has_timer old x)) alerts_are set))
    c.refresh_alerts.ensures

pub returns-in-None-clause-timers : goal.returns-in-None-clause-timers
returns-in-None-clause-timers c x =
    let t = c.args.tenant.now in
    let none : [] ≡ c.args.list.items =
    c.in-None.ensures ∙ c.in_ok-rebuild.ensures.alerts t ∙ ap (λ b. cond b c.args.list.items (grouped_of t c.args.groups.now).alerts) (same-refl t) in
    ap (λ es. cond (is_for_one t c.args.paces (all_groups es) x) (gave (flush_due_of c.args.paces (grouped_of t c.rebuild.new.self) x.name.key) x.due) (has_timer c.args.timers.now.timers x)) none
