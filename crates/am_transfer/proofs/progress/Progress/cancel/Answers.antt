use Rattle.std.proofs.Common.{◌≡◌, List, ℕ, ◌++◌, map, false, if◌then◌else◌, ap, sym, ◌∙◌, rules, append-nil}
use Rattle.std.specs.Map.{keys_of}
use Rattle.std.specs.Map.Iter.{deref}
use Rattle.std.proofs.lemmas.Map.Iter.{iter_end}
use Rattle.am_timer.specs.Tied.{has_timer}
use Rattle.am_transfer.specs.Progress.{Progress}
use Rattle.am_transfer.specs.Timers.{is_for}
use Rattle.am_transfer.proofs.Timed.{grown_for, grown_list}
use Rattle.am_transfer.proofs.progress.Progress.cancel.Goals as goal

pub loop-instance-init : goal.loop-instance-init
loop-instance-init c x =
    let asked : c.deref.result.now ≡ c.args.self.now.asked = c.deref.ensures.value ∙ ap (λ (p : Progress). p.asked) c.self.view_is in
    c.cancel_all.ensures x
    ∙ ap (λ (xs : List ℕ). if is_for c.args.tenant.now xs x then false else has_timer c.args.timers.now.timers x) (asked ∙ sym (append-nil c.args.self.now.asked))

pub loop-instance-preserved : goal.loop-instance-preserved
loop-instance-preserved c x =
    let before = c.args.self.now.asked ++ map deref c.loop-instance.yielded in
    grown_for c.args.tenant.now before c.in-Some.instance.now x false (has_timer c.args.timers.now.timers x) (has_timer c.loop-instance.timers.timers x)
    (has_timer c.cancel.new.timers.timers x) (c.loop-instance.invariant x) (c.cancel.ensures x)
    ∙ ap (λ (xs : List ℕ). if is_for c.args.tenant.now xs x then false else has_timer c.args.timers.now.timers x)
    (sym (grown_list c.args.self.now.asked c.loop-instance.yielded c.in-Some.instance))

pub returns : goal.returns
returns c x =
    let all : map deref c.loop-instance.yielded ≡ keys_of c.self.inside.pushes.entries = search (rules, iter_end) in
    c.loop-instance.invariant x
    ∙ ap (λ (xs : List ℕ). if is_for c.args.tenant.now (c.args.self.now.asked ++ xs) x then false else has_timer c.args.timers.now.timers x)
    (all ∙ ap (λ (p : Progress). keys_of p.settling.pushes) c.self.view_is)
