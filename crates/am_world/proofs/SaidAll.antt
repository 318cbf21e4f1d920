-- What one instance says of all tenants at once, by one reaction for each of them: whose it is, and how it is counted.
use Rattle.std.proofs.Common.{◌≡◌, ◌∙◌, ℕ, true, All, List, [], map, sym, ap, subst, arith}
use Rattle.std.proofs.lemmas.List.Elements.{All-contains, All-map, All-weaker}
use Rattle.am_cluster.specs.Events.{Output, Send}
use Rattle.am_cluster.specs.Here.{Here}
use Rattle.am_cluster.specs.Local.{Local}
use Rattle.am_cluster.specs.Outputs.{are_owned, front_outputs, outputs_of}
use Rattle.am_cluster.specs.PrivateCluster.{output_of}
use Rattle.am_cluster.specs.Reactions.{Reaction, Said, messages_in}
use Rattle.am_cluster.specs.Replying.{ReplyOver}
use Rattle.am_cluster.specs.View.{Watch}
use Rattle.am_cluster.proofs.Counted.{Counts}
use Rattle.am_instance.specs.Changing.{ReactsAll}
use Rattle.am_instance.specs.Here.{Circumstances}
use Rattle.am_instance.specs.Reacting.{reaction_on}
use Rattle.am_instance.specs.Ticks.{outputs_of_all, said_of}
use Rattle.am_instance.specs.declared.instance.Instance.{Instance}
use Rattle.am_world.specs.Simulation.{IsAskerOf}
use Rattle.am_world.specs.Steps.{Later}
use Rattle.am_world.proofs.AloneOwn.{AreOf}
use Rattle.am_world.proofs.Fresh.{CountsOn, SaysNext, TellsNext, counted_in, counts_rise, said_next, word_next}
use Rattle.am_world.proofs.TickSaid.{AllOwned, AreFrom, Owns, SaidBy, each_said, of_front, of_somebody, of_tenant}
use Rattle.am_world.proofs.TickSaid.{out_from, owns, said_by}
use Rattle.am_world.proofs.Turned.{IsFrom}

-- what it told is this of all tenants, and of each what its reaction says
pub record SaysAll (x : Instance) (told : List Output) (each : List ℕ → Reaction) : Type 0 where
  pub all : List (List ℕ × Said)
  pub outputs : told ≡ outputs_of_all x all
  pub says : (t : List ℕ) → said_of t all ≡ (each t).said

module _ (x : Instance) (told : List Output) (each : List ℕ → Reaction) (s : SaysAll x told each) where
  -- ---- whose messages these are

  all_from : (before : List ℕ → ℕ)
      → ((t : List ℕ) → Counts x.number x.incarnation (before t) (messages_in (each t).said)
      (each t).local.ledger.messages) → All (IsFrom x.number) told
  all_from before counts =
      subst (All (IsFrom x.number)) (sym s.outputs)
      (All-map (IsFrom x.number) (λ (e : List ℕ × Said). output_of e.0 x.number x.incarnation e.1) s.all
      (All-weaker (λ (e : List ℕ × Said). SaidBy x.number e.1)
      (λ (e : List ℕ × Said). IsFrom x.number (output_of e.0 x.number x.incarnation e.1))
      (λ e by. out_from x.number x.incarnation e.0 e.1 by) s.all
      (each_said (λ t word. SaidBy x.number word) s.all (λ t.
      subst (All (SaidBy x.number)) (sym (s.says t))
      (said_by x.number x.incarnation (before t) (each t).local.ledger.messages (each t).said (counts t))))))

  -- the instance's own, where each reaction counts them
  pub says_from : (before : List ℕ → ℕ)
      → ((t : List ℕ) → Counts x.number x.incarnation (before t) (messages_in (each t).said)
      (each t).local.ledger.messages) → AreFrom x.number told
  says_from before counts m among = All-contains (IsFrom x.number) told (Send m) (all_from before counts) among

  -- ---- how they are counted

  -- where the tenants have then what their reactions make of what they had, it counts on
  pub says_on : (x' : Instance) → ((t : List ℕ) → AreOf t (each t).said)
      → ((t : List ℕ) → Counts x.number x.incarnation (counted_in t x) (messages_in (each t).said)
      (counted_in t x')) → CountsOn x x' told
  says_on x' own counts = record {
    next = subst (All (TellsNext x x')) (sym s.outputs)
        (All-map (TellsNext x x') (λ (e : List ℕ × Said). output_of e.0 x.number x.incarnation e.1) s.all
        (All-weaker (λ (e : List ℕ × Said). SaysNext x x' e.1)
        (λ (e : List ℕ × Said). TellsNext x x' (output_of e.0 x.number x.incarnation e.1))
        (λ e next. word_next x x' e.0 x.number x.incarnation e.1 next) s.all
        (each_said (λ t word. SaysNext x x' word) s.all
        (λ t. subst (All (SaysNext x x')) (sym (s.says t))
        (said_next x x' t (counted_in t x) (each t).said (own t) (omega arith) (counts t))))));
    grows = λ t.
        counts_rise x.number x.incarnation (counted_in t x) (counted_in t x') (messages_in (each t).said) (counts t);
  }

  -- ---- whose what is said is

  module _ (v u : Watch) (later : Later v u)
      (over : (t : List ℕ) → ReplyOver (λ c request. IsAskerOf v t c) (each t).said)
      (own : (t : List ℕ) → AreOf t (each t).said) where
    all_owned : AllOwned u s.all
    all_owned =
        each_said (Owns u) s.all
        (λ t. subst (All (Owns u t)) (sym (s.says t)) (owns v u t (each t).said later (over t) (own t)))

    says_of : (t : List ℕ)
        → outputs_of t u told ≡ map (output_of t x.number x.incarnation) (each t).said
    says_of t =
        ap (outputs_of t u) s.outputs ∙ of_tenant u x t s.all all_owned
        ∙ ap (map (output_of t x.number x.incarnation)) (s.says t)

    -- .. as an instance of the tenant's cluster says it, by a reaction that comes to the same
    pub says_as : (t : List ℕ) (i k : ℕ) (r : Reaction) → x.number ≡ i → x.incarnation ≡ k → each t ≡ r
        → outputs_of t u told ≡ map (output_of t i k) r.said
    says_as t i k r number incarnation same =
        says_of t ∙ (λ d. map (output_of t (number d) (incarnation d)) (same d).said)

    pub says_no_front : front_outputs u told ≡ []
    says_no_front = ap (front_outputs u) s.outputs ∙ of_front u x s.all all_owned

    pub says_owned : are_owned u told ≡ true
    says_owned = ap (are_owned u) s.outputs ∙ of_somebody u x s.all all_owned

-- ---- one that did so

pub says_reacting : (around : Circumstances) (react : List ℕ → Here → Local → Reaction) (x y : Instance)
    (told : List Output) → ReactsAll around react x y [] told
    → SaysAll x told (λ t. reaction_on around x t (react t))
says_reacting around react x y told reacts = record {
  all = reacts.all;
  outputs = reacts.outputs;
  says = λ t. (reacts.does t).says;
}
