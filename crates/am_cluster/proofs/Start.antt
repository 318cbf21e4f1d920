-- While nothing has changed since the opening: who is settled, and what nobody does.
use Rattle.std.proofs.Common.{◌≡◌, Bool, true, false, ◌&&◌, ◌||◌, not, [], ◌++◌, refl, ap, ◌∙◌, is_none}
use Rattle.am_node.specs.Notices.{in_order, timers_in}
use Rattle.am_cluster.specs.Here.{Here, is_replica_here, others}
use Rattle.am_cluster.specs.Local.{Local, is_settled, with_settling}
use Rattle.am_cluster.specs.Plans.{plan_of}
use Rattle.am_cluster.specs.Reactions.{each, only_if, stays}
use Rattle.am_transfer.specs.Settling.{Settling, lacking, untouched}
use Rattle.am_cluster.specs.Ticking.{ask_timers, deadlines, push_timers, timers_of}
use Rattle.am_cluster.specs.Transfers.{ask, asks_first}

or_false : (b : Bool) → (b || false) ≡ b
or_false true = refl
or_false false = refl

pub replicas_settled : (here : Here) (local : Local) → here.stayed ≡ is_replica_here here → local.settling ≡ untouched
    → is_settled here local ≡ is_replica_here here
replicas_settled here local e u =
    ap (λ (s : Settling). here.stayed || s.has_settled) u ∙ or_false here.stayed ∙ e

not_both : (a c d : Bool) → (a && (not (a || c) && d)) ≡ false
not_both true c d = refl
not_both false c d = refl

pub nobody_asks : (here : Here) (local : Local) → here.stayed ≡ is_replica_here here → asks_first here local ≡ stays local
unfolding asks_first
nobody_asks here local e =
    ap (λ b. only_if (is_replica_here here && (not (b || local.settling.has_settled) && is_none local.settling.asked_at))
    (each (ask here) (lacking (others here) local.settling)) local) e
    ∙ ap (λ t. only_if t (each (ask here) (lacking (others here) local.settling)) local)
    (not_both (is_replica_here here) local.settling.has_settled (is_none local.settling.asked_at))

pub no_more_timers : (here : Here) (local : Local) → local.settling ≡ untouched
    → timers_of here local ≡ in_order (deadlines here.tenant local ++ (timers_in here.tenant (plan_of here local) ++ []))
unfolding timers_of
no_more_timers here local u =
    ap (λ (s : Settling). in_order (deadlines here.tenant local ++ (timers_in here.tenant (plan_of here local)
    ++ (push_timers here.tenant (with_settling s local) ++ ask_timers here (with_settling s local))))) u
