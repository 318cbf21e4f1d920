use Rattle.std.proofs.Common.{◌≡◌, ◌∷◌, ◌++◌, [], ℕ, List, false, length, refl, sym, ap, ◌∙◌, if◌then◌else◌}
use Rattle.std.specs.Map.{keys_of}
use Rattle.std.proofs.lemmas.Iterator.Adapters.{YieldsList-from_vec}
use Rattle.std.proofs.lemmas.Iterator.Consumers.{YieldsList-turn}
use Rattle.am_agenda.specs.Plan.{Plan, with_alerts}
use Rattle.am_agenda.specs.Planned.{plan_of}
use Rattle.am_tenant.specs.Names.{same}
use Rattle.am_notifier.specs.Following.{all_sooner, is_known, unknown_of}
use Rattle.am_notifier.proofs.Coming.{Alerts, no_unknown, none_sooner, one_unknown}
use Rattle.am_notifier.proofs.Flagged.{keys_more, unknown_at}
use Rattle.am_notifier.proofs.Meeting.{known_then, met_more, ordered_then, unknown_met}
use Rattle.am_context.proofs.Changes.{one_changes}
use Rattle.am_notifier.proofs.following.meet_known.Goals.{then-is_new-via-then-is_new}
use Rattle.am_notifier.proofs.following.meet_known.Goals.{then-is_new-via-else-is_new+in_ok-meet_one+then-not-branch}
use Rattle.am_notifier.proofs.following.meet_known.Goals as goal

pub loop-labels-init : goal.loop-labels-init
unfolding unknown_of
loop-labels-init c =
    let s = c.args.tenant.now in
    let plan = plan_of s c.args.agenda.now in
    record {
      plans =
          one_changes s (λ (p : Plan). with_alerts (all_sooner c.args.moment [] p.grouped.alerts) p) (λ t. plan_of t c.args.agenda.now) (λ t. plan_of t c.args.agenda.now)
          (ap (λ (xs : Alerts). with_alerts xs plan) (none_sooner c.args.moment plan.grouped.alerts)) (λ t apart. refl);
      unknown = c.new-unknown.ensures.items;
    }

pub meet_one-requires : goal.meet_one-requires
meet_one-requires c =
    record {
      rising =
          ordered_then c.args.tenant.now c.args.moment (keys_of c.loop-labels.yielded) (λ t. plan_of t c.args.agenda.now) (λ t. plan_of t c.loop-labels.agenda)
          c.loop-labels.invariant.plans c.requires.rising;
    }

pub loop-labels-preserved-in-loop-labels : goal.loop-labels-preserved-in-loop-labels
loop-labels-preserved-in-loop-labels c =
    let s = c.args.tenant.now in
    let m = c.args.moment in
    let came = c.args.came.items in
    let ys = c.loop-labels.yielded in
    let l = c.in-Some.labels in
    let first : List ℕ → Plan = λ t. plan_of t c.args.agenda.now in
    let mid : List ℕ → Plan = λ t. plan_of t c.loop-labels.agenda in
    let before = c.loop-labels.invariant.plans in
    let more = keys_more ys (l, c.in-Some.is_new) in
    let gives = c.into_iter-labels-iterator.ensures.into_iter_gives in
    let turn =
    YieldsList-turn (YieldsList-from_vec {s = c.into_iter-labels-iterator.result} came gives.0 (gives.1 ∙ c.args.came.ok.0))
    ys c.loop-labels.labels-iterator c.loop-labels.yielded_by c.next.result c.next.new.self (l, c.in-Some.is_new) c.in-Some.is c.next.ensures.steps in
    let same_known = known_then s m (keys_of ys) l first mid before in
    let unknown : is_known l (first s).grouped.alerts ≡ false = elim c.then-is_new.branch [
      | then-is_new-via-then-is_new w ↦ unknown_at came (first s).grouped.alerts (length ys) (l, c.in-Some.is_new) c.requires.new turn.0 turn.1 w.if-is_new.true
      | then-is_new-via-else-is_new+in_ok-meet_one+then-not-branch w ↦ sym same_known ∙ sym w.in_ok-meet_one.ensures.known ∙ w.if-not-branch.true
    ] in
    let one : (t : List ℕ) → plan_of t c.then-is_new.agenda ≡ (if same t s then with_alerts (all_sooner m (l ∷ []) (mid t).grouped.alerts) (mid t) else mid t) = elim c.then-is_new.branch [
      | then-is_new-via-then-is_new w ↦ λ t. ap (plan_of t) w.agenda-is ∙ unknown_met s m l mid (ordered_then s m (keys_of ys) first mid before c.requires.rising) (same_known ∙ unknown) t
      | then-is_new-via-else-is_new+in_ok-meet_one+then-not-branch w ↦ λ t. ap (plan_of t) w.agenda-is ∙ w.in_ok-meet_one.ensures.plans t
    ] in
    record {
      plans = met_more s m (keys_of ys) _ l first mid _ more before one;
      unknown =
          c.in_ok-push.ensures.items ∙ ap (λ us. us ++ (l, m) ∷ []) c.loop-labels.invariant.unknown
          ∙ one_unknown m (keys_of ys) l _ unknown ∙ ap (λ sets. unknown_of m sets (first s).grouped.alerts) (sym more);
    }

pub loop-labels-preserved : goal.loop-labels-preserved
loop-labels-preserved c =
    let s = c.args.tenant.now in
    let m = c.args.moment in
    let l = c.in-Some.labels in
    let ys = keys_of c.loop-labels.yielded in
    let more = keys_more c.loop-labels.yielded (l, c.in-Some.is_new) in
    let same_known = known_then s m ys l (λ t. plan_of t c.args.agenda.now) (λ t. plan_of t c.loop-labels.agenda) c.loop-labels.invariant.plans in
    record {
      plans = met_more s m ys _ l (λ t. plan_of t c.args.agenda.now) _ _ more c.loop-labels.invariant.plans c.in_ok-meet_one.ensures.plans;
      unknown =
          c.loop-labels.invariant.unknown ∙ no_unknown m ys l _ (sym same_known ∙ sym c.in_ok-meet_one.ensures.known ∙ c.if-not-branch.false)
          ∙ ap (λ sets. unknown_of m sets (plan_of s c.args.agenda.now).grouped.alerts) (sym more);
    }
