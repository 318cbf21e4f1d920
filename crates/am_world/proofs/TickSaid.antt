-- What goes out at the tick of one instance, of each tenant.
use Rattle.std.proofs.Common.{◌≡◌, ◌∙◌, inl, inr, ℕ, ◌+◌, true, All, Contains, List, [], ◌∷◌, map, Option, Some, refl}
use Rattle.std.proofs.Common.{sym, ap, subst}
use Rattle.std.proofs.lemmas.Bool.{cases_Bool}
use Rattle.std.proofs.lemmas.List.Elements.{All-cons, All-contains, All-head, All-map, All-nil, All-tail, All-weaker}
use Rattle.am_cluster.specs.Events.{Output, Send}
use Rattle.am_cluster.specs.Local.{Local}
use Rattle.am_cluster.specs.Messages.{Message}
use Rattle.am_cluster.specs.Outputs.{Tenant, are_owned, front_outputs, outputs_of, owner, replier}
use Rattle.am_cluster.specs.PrivateCluster.{output_of}
use Rattle.am_cluster.specs.Reactions.{Replies, Said, Sends, Tells, messages_in}
use Rattle.am_cluster.specs.Replying.{GoesOver, ReplyOver, WaitOver}
use Rattle.am_cluster.specs.Ticking.{ticked}
use Rattle.am_cluster.specs.View.{AskedAs, Watch, look}
use Rattle.am_cluster.proofs.Counted.{Counts, ticked_counted}
use Rattle.am_cluster.proofs.ReplyTurns.{ticked_over}
use Rattle.am_messages.specs.declared.messages.Posted.{Posted}
use Rattle.am_messages.specs.declared.name.MessageName.{MessageName}
use Rattle.am_tenant.specs.Names.{same}
use Rattle.am_tenant.proofs.Same.{same-refl, same_tells}
use Rattle.am_instance.specs.Here.{Circumstances, here_on}
use Rattle.am_instance.specs.Instance.{local_in}
use Rattle.am_instance.specs.Ticks.{Ticks, TicksAll, outputs_of_all, said_of}
use Rattle.am_instance.specs.declared.instance.Instance.{Instance}
use Rattle.am_world.specs.Posting.{posted_over}
use Rattle.am_world.specs.Simulation.{IsAskerOf}
use Rattle.am_world.specs.Steps.{Later}
use Rattle.am_world.proofs.AloneOwn.{AreOf, IsOf, ticked_own}
use Rattle.am_world.proofs.Posted.{not_of_another}
use Rattle.am_world.proofs.PostingLemmas.{unposted_all}
use Rattle.am_world.proofs.Turned.{IsFrom}

-- ---- of all that is said, what is said of each tenant

-- what is so of what is said of each is so of all
pub each_said : (P : List ℕ → Said → Type 0) (all : List (List ℕ × Said)) → ((t : List ℕ) → All (P t) (said_of t all))
    → All (λ (e : List ℕ × Said). P e.0 e.1) all
unfolding said_of
each_said P [] each = All-nil (λ (e : List ℕ × Said). P e.0 e.1)
each_said P (e ∷ all) each =
    All-cons (λ (d : List ℕ × Said). P d.0 d.1) e all (All-head (P e.0) e.1 (said_of e.0 all) (own e.0 (same-refl e.0)))
    (each_said P all rest)
  where
    own : (t : List ℕ) → same t e.0 ≡ true → All (P t) (e.1 ∷ said_of t all)
    own t is = rw is at (each t)

    rest : (t : List ℕ) → All (P t) (said_of t all)
    rest t = elim (cases_Bool (same t e.0)) [
      | inl is ↦ All-tail (P t) e.1 (said_of t all) (own t is)
      | inr apart ↦ rw apart at (each t)
    ]

-- ---- whose messages these are

-- a message that is said is of the instance of a number
abbrev pub SaidBy : ℕ → Said → Type 0
SaidBy i (Replies connection bytes) = Unit {0}
SaidBy i (Sends message) = message.from ≡ i
SaidBy i (Tells sending) = Unit {0}

pub said_by : (i k a b : ℕ) (said : List Said) → Counts i k a (messages_in said) b → All (SaidBy i) said
said_by i k a b [] counts = All-nil (SaidBy i)
said_by i k a b (Replies c bytes ∷ said) counts =
    All-cons (SaidBy i) (Replies c bytes) said tt (said_by i k a b said counts)
said_by i k a b (Sends m ∷ said) counts =
    All-cons (SaidBy i) (Sends m) said counts.0 (said_by i k (a + 1) b said counts.3)
said_by i k a b (Tells s ∷ said) counts = All-cons (SaidBy i) (Tells s) said tt (said_by i k a b said counts)

-- .. as it is put out
pub out_from : (i k : ℕ) (t : List ℕ) (word : Said) → SaidBy i word → IsFrom i (output_of t i k word)
out_from i k t (Replies c bytes) by = tt
out_from i k t (Sends m) by = by
out_from i k t (Tells s) by = tt

-- each message among these is of the instance
abbrev pub AreFrom : ℕ → List Output → Type 0
AreFrom i outputs = (m : Message) → Contains outputs (Send m) → m.from ≡ i

module _ (around : Circumstances) (x x' : Instance) (told : List Output) where
  all_from : TicksAll around x x' [] told → All (IsFrom x.number) told
  unfolding here_on
  all_from ticks =
      subst (All (IsFrom x.number)) (sym ticks.outputs)
      (All-map (IsFrom x.number) (λ (e : List ℕ × Said). output_of e.0 x.number x.incarnation e.1) ticks.all
      (All-weaker (λ (e : List ℕ × Said). SaidBy x.number e.1)
      (λ (e : List ℕ × Said). IsFrom x.number (output_of e.0 x.number x.incarnation e.1))
      (λ e by. out_from x.number x.incarnation e.0 e.1 by) ticks.all
      (each_said (λ t word. SaidBy x.number word) ticks.all (λ t.
      subst (All (SaidBy x.number)) (sym (ticks.does t).says)
      (said_by x.number x.incarnation (local_in t x).ledger.messages
      (ticked (here_on around x t) (local_in t x)).local.ledger.messages
      (ticked (here_on around x t) (local_in t x)).said (ticked_counted (here_on around x t) (local_in t x)))))))

  pub all_told : Ticks around x x' [] told → All (IsFrom x.number) told
  all_told ticks = elim (cases_Bool x.up) [
    | inl up ↦ all_from (ticks.ticks up)
    | inr down ↦ subst (All (IsFrom x.number)) (sym (ticks.quiet down)) (All-nil (IsFrom x.number))
  ]

  pub told_from : Ticks around x x' [] told → AreFrom x.number told
  told_from ticks m among = All-contains (IsFrom x.number) told (Send m) (all_told ticks) among

-- names of other senders are left as they were
pub unposted_from : (i moment : ℕ) (told : List Output) (name : MessageName) (before : Option Posted) → AreFrom i told
    → (name.from ≡ i → ⊥) → posted_over moment told name before ≡ before
unposted_from i moment told name before from other =
    unposted_all moment told name before (not_of_another i told name from other)

-- ---- whose what is said is

-- it is the tenant's, as far as is known
abbrev pub Owns : Watch → (t : List ℕ) → Said → Type 0
Owns u t (Replies c bytes) = look c u.table ≡ Some (AskedAs t)
Owns u t (Sends message) = message.tenant ≡ t
Owns u t (Tells sending) = Unit {0}

pub owns : (v u : Watch) (t : List ℕ) (said : List Said) → Later v u → ReplyOver (λ c request. IsAskerOf v t c) said
    → AreOf t said → All (Owns u t) said
owns v u t [] later over own = All-nil (Owns u t)
owns v u t (Replies c bytes ∷ said) later over own =
    let goes = All-head (GoesOver (λ d request. IsAskerOf v t d)) (Replies c bytes) said over in
    All-cons (Owns u t) (Replies c bytes) said (later.asked c t goes.1)
    (owns v u t said later (All-tail (GoesOver (λ d request. IsAskerOf v t d)) (Replies c bytes) said over)
    (All-tail (IsOf t) (Replies c bytes) said own))
owns v u t (Sends m ∷ said) later over own =
    All-cons (Owns u t) (Sends m) said (All-head (IsOf t) (Sends m) said own)
    (owns v u t said later (All-tail (GoesOver (λ d request. IsAskerOf v t d)) (Sends m) said over)
    (All-tail (IsOf t) (Sends m) said own))
owns v u t (Tells s ∷ said) later over own =
    All-cons (Owns u t) (Tells s) said tt
    (owns v u t said later (All-tail (GoesOver (λ d request. IsAskerOf v t d)) (Tells s) said over)
    (All-tail (IsOf t) (Tells s) said own))

-- each thing that is said of a tenant is the tenant's
abbrev pub AllOwned : Watch → List (List ℕ × Said) → Type 0
AllOwned u all = All (λ (e : List ℕ × Said). Owns u e.0 e.1) all

owner_is : (u : Watch) (t : List ℕ) (i k : ℕ) (word : Said) → Owns u t word
    → owner u (output_of t i k word) ≡ Some (Tenant t)
unfolding owner
owner_is u t i k (Replies c bytes) own = ap replier own
owner_is u t i k (Sends m) own = ap (λ name. Some (Tenant name)) own
owner_is u t i k (Tells s) own = refl

module _ (u : Watch) (x : Instance) where
  first_owner : (e : List ℕ × Said) (all : List (List ℕ × Said)) → AllOwned u (e ∷ all)
      → owner u (output_of e.0 x.number x.incarnation e.1) ≡ Some (Tenant e.0)
  first_owner e all own =
      owner_is u e.0 x.number x.incarnation e.1 (All-head (λ (d : List ℕ × Said). Owns u d.0 d.1) e all own)

  others_owned : (e : List ℕ × Said) (all : List (List ℕ × Said)) → AllOwned u (e ∷ all) → AllOwned u all
  others_owned e all own = All-tail (λ (d : List ℕ × Said). Owns u d.0 d.1) e all own

  pub of_tenant : (t : List ℕ) (all : List (List ℕ × Said)) → AllOwned u all
      → outputs_of t u (outputs_of_all x all) ≡ map (output_of t x.number x.incarnation) (said_of t all)
  unfolding said_of
  of_tenant t [] own = refl
  of_tenant t (e ∷ all) own = rw (first_owner e all own) (elim (same_tells t e.0) [
    | inl is ↦
        rw (is.0) (ap (λ os. output_of e.0 x.number x.incarnation e.1 ∷ os) (of_tenant t all (others_owned e all own))
        ∙ ap (λ s. output_of s x.number x.incarnation e.1 ∷ map (output_of t x.number x.incarnation) (said_of t all))
        (sym is.1))
    | inr apart ↦ rw (apart.0) (of_tenant t all (others_owned e all own))
  ])

  pub of_front : (all : List (List ℕ × Said)) → AllOwned u all → front_outputs u (outputs_of_all x all) ≡ []
  of_front [] own = refl
  of_front (e ∷ all) own = rw (first_owner e all own) (of_front all (others_owned e all own))

  pub of_somebody : (all : List (List ℕ × Said)) → AllOwned u all → are_owned u (outputs_of_all x all) ≡ true
  of_somebody [] own = refl
  of_somebody (e ∷ all) own = rw (first_owner e all own) (of_somebody all (others_owned e all own))

-- ---- all of one instance

module _ (around : Circumstances) (x x' : Instance) (told : List Output) (ticks : TicksAll around x x' [] told) where
  -- who waits for a reply had asked
  module _ (v : Watch) (asked : (t : List ℕ) → WaitOver (λ c request. IsAskerOf v t c) (local_in t x).operations) where
    pub all_owned : (u : Watch) → Later v u → AllOwned u ticks.all
    unfolding here_on
    all_owned u later =
        each_said (Owns u) ticks.all
        (λ t. subst (All (Owns u t)) (sym (ticks.does t).says)
        (owns v u t (ticked (here_on around x t) (local_in t x)).said later
        (ticked_over (λ c request. IsAskerOf v t c) (here_on around x t) (local_in t x) (asked t)).1
        (ticked_own (here_on around x t) (local_in t x))))

    pub still_asked : (t : List ℕ) → WaitOver (λ c request. IsAskerOf v t c) (local_in t x').operations
    still_asked t =
        subst (λ (l : Local). WaitOver (λ c request. IsAskerOf v t c) l.operations) (sym (ticks.does t).local)
        (ticked_over (λ c request. IsAskerOf v t c) (here_on around x t) (local_in t x) (asked t)).0
