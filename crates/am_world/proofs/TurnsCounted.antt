-- What an instance tells of all tenants where another one was restarted, or where it learns a ring, is counted on.
use Rattle.std.proofs.Common.{ℕ, nat_eq, suc, false, ◌≡◌, List, [], sym, subst, arith, if◌then◌else◌}
use Rattle.std.proofs.lemmas.Bool.Decides.{nat_tests}
use Rattle.am_cluster.specs.Events.{Output}
use Rattle.am_cluster.specs.Here.{Here}
use Rattle.am_cluster.specs.Local.{Local}
use Rattle.am_cluster.specs.Reactions.{Reaction, messages_in}
use Rattle.am_cluster.specs.RingChanges.{just_opened, other_restarted}
use Rattle.am_cluster.proofs.Counted.{Counts, learned_counted, restart_counted}
use Rattle.am_instance.specs.Changing.{ReactsAll, learned, learning}
use Rattle.am_instance.specs.Here.{Circumstances, here_on, three_on}
use Rattle.am_instance.specs.Instance.{local_in}
use Rattle.am_instance.specs.Reacting.{reaction_on}
use Rattle.am_instance.specs.declared.instance.Instance.{Instance}
use Rattle.am_world.specs.Changing.{FollowsRestart}
use Rattle.am_world.proofs.Fresh.{CountsOn, counted_in}
use Rattle.am_world.proofs.RingOwn.{learned_own, other_restarted_own}
use Rattle.am_world.proofs.SaidAll.{says_on, says_reacting}

-- ---- another one was restarted

pub other_counted : (here : Here) (r : ℕ) (l : Local)
    → (let a : Reaction = other_restarted here r l in
    Counts here.instance here.incarnation l.ledger.messages (messages_in a.said) a.local.ledger.messages)
other_counted here r l =
    let apart : nat_eq (suc r) r ≡ false = grind (arith, nat_tests) in
    subst (λ b. let a : Reaction = if b then just_opened here l else other_restarted here r l in
    Counts here.instance here.incarnation l.ledger.messages (messages_in a.said) a.local.ledger.messages) apart
    (restart_counted r (suc r) here l)

pub follows_on : (around : Circumstances) (r : ℕ) (told : List Output) (x x' : Instance)
    → FollowsRestart around r told x x' → CountsOn x x' told
unfolding here_on
follows_on around r told x x' follows =
    says_on x told each (says_reacting around (λ t here. other_restarted here r) x x' told follows) x'
    (λ t. other_restarted_own (here_on around x t) r (local_in t x))
    (λ t. subst (λ (l : Local). Counts x.number x.incarnation (counted_in t x) (messages_in (each t).said)
    l.ledger.messages) (sym (follows.does t).local) (other_counted (here_on around x t) r (local_in t x)))
  where
    each : List ℕ → Reaction
    each t = reaction_on around x t (λ here. other_restarted here r)

-- ---- it learns a ring

pub learns_on : (around : Circumstances) (told : List Output) (x x' : Instance)
    → ReactsAll around (learning around x) (learned x) x' [] told → CountsOn x x' told
unfolding here_on local_in
learns_on around told x x' learns =
    says_on x told each
    (record { all = learns.all; outputs = learns.outputs; says = λ t. (learns.does t).says }) x'
    (λ t. learned_own (here_on around (learned x) t) (three_on around x t) (local_in t (learned x)))
    (λ t. subst (λ (l : Local). Counts x.number x.incarnation (counted_in t x) (messages_in (each t).said)
    l.ledger.messages) (sym (learns.does t).local)
    (learned_counted (here_on around (learned x) t) (three_on around x t) (local_in t (learned x))))
  where
    each : List ℕ → Reaction
    each t = reaction_on around (learned x) t (learning around x t)
