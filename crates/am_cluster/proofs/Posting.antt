-- What instances post: messages whose names nothing had that was sent before, nor anything that another one says at the
-- same time.
use Rattle.std.proofs.Common.{◌≡◌, ℕ, ◌+◌, Bool, true, false, Contains, List, [], ◌∷◌, ◌++◌, refl, sym, subst, ◌∙◌, inl, inr, arith}
use Rattle.std.specs.Prelude.{◌==◌}
use Rattle.std.specs.List.{list_any}
use Rattle.std.proofs.lemmas.Bool.{eq-eqb, or_parts, true≢false}
use Rattle.am_ring.specs.Instances.{is_among}
use Rattle.am_cluster.specs.Messages.{Message}
use Rattle.am_cluster.specs.Naming.{IsPast, NamesOnce}
use Rattle.am_cluster.specs.PrivateCluster.{PrivateCluster, here_at}
use Rattle.am_cluster.specs.Reactions.{Reaction, messages_in}
use Rattle.am_cluster.specs.Sent.{sent_at}
use Rattle.am_cluster.specs.SentFacts.{AreNamedOnce, has_name_of}
use Rattle.am_cluster.proofs.Counted.{Counts, IsCounted}
use Rattle.am_cluster.proofs.Named.{Turn, said_by_all, up_to_at}
use Rattle.am_cluster.proofs.Names.{Each-map, IsLater, IsNew, IsUpTo, all_new, as_sent, more_named, new_named, no_name, none-append}
use Rattle.am_cluster.proofs.Posted.{as_new, contained, contains-map, new_unnamed, none_before}

-- ---- one instance

-- counted messages are of the instance, in the incarnation
pub counted_from : (i k a b : ℕ) (ms : List Message) → Counts i k a ms b → (m : Message) → Contains ms m
    → (m.from ≡ i) × (m.incarnation ≡ k)
counted_from i k a b [] c m w = absurd (omega (arith, w.1))
counted_from i k a b (n ∷ ms) c m w = elim (contained n ms m w) [
  | inl here ↦ (
    subst (λ (x : Message). x.from ≡ i) here c.0,
    subst (λ (x : Message). x.incarnation ≡ k) here c.1,
  )
  | inr later ↦ counted_from i k (a + 1) b ms c.3 m later
]

-- each message that an up instance says has a name that nothing had, and is of the instance in its incarnation
pub said_is_new : (p : PrivateCluster) (moment i : ℕ) (r : Reaction) → NamesOnce p → p.roster.up i ≡ true
    → IsCounted (here_at p moment i) (p.at i) r → (m : Message) → Contains (messages_in r.said) m
    → (has_name_of m p.sent ≡ false) × (m.from ≡ i) × (m.incarnation ≡ p.roster.incarnation i)
unfolding here_at
said_is_new p moment i r kept up counted m w =
    let own = counted_from i (p.roster.incarnation i) (p.at i).ledger.messages r.local.ledger.messages
    (messages_in r.said) counted m w in
    (new_unnamed p moment i r kept up counted m w, own.0, own.1)

-- ---- several instances at their turns

module _ (p : PrivateCluster) (r : ℕ → Reaction) (turns : (i : ℕ) → Turn p r i) where
  -- each message that one says is of it, in its incarnation
  pub turn_from : (i : ℕ) (m : Message) → Contains (messages_in (r i).said) m
      → (m.from ≡ i) × (m.incarnation ≡ p.roster.incarnation i)
  turn_from i m w =
      counted_from i (p.roster.incarnation i) (p.at i).ledger.messages (r i).local.ledger.messages
      (messages_in (r i).said) (turns i).counts m w

  -- .. has a name that nothing had
  pub turn_is_new : NamesOnce p → (i : ℕ) (m : Message) → Contains (messages_in (r i).said) m
      → has_name_of m p.sent ≡ false
  unfolding as_sent
  turn_is_new kept i m w = by_up (p.roster.up i) refl
    where
      by_up : (b : Bool) → p.roster.up i ≡ b → has_name_of m p.sent ≡ false
      by_up true up =
          none_before p.sent (as_sent 0 (messages_in (r i).said)) (as_new 0 m)
          (more_named i (p.roster.incarnation i) (p.at i).ledger.messages (r i).local.ledger.messages 0
          (messages_in (r i).said) p.sent (turns i).counts kept.named
          (Each-map (IsPast p) (IsUpTo i (p.roster.incarnation i) (p.at i).ledger.messages) p.sent (up_to_at p i up)
          kept.past))
          (contains-map (as_new 0) (messages_in (r i).said) m w)
      by_up false down =
          let none : Contains [] m = subst (λ (ms : List Message). Contains ms m) ((turns i).silent down) w in
          absurd (omega (arith, none.1))

  -- .. and one that no message of another instance has
  pub turn_is_apart : (moment i : ℕ) (m : Message) → Contains (messages_in (r i).said) m → (is : List ℕ)
      → is_among i is ≡ false → has_name_of m (said_by_all moment r is) ≡ false
  unfolding as_sent
  turn_is_apart moment i m w [] e = refl
  turn_is_apart moment i m w (j ∷ js) e =
      let parts = or_parts (i == j) (is_among i js) e in
      let k : ℕ = p.roster.incarnation j in
      let before : ℕ = (p.at j).ledger.messages in
      let now : ℕ = (r j).local.ledger.messages in
      none-append m (sent_at moment (r j).said) (said_by_all moment r js)
      (no_name m (as_sent moment (messages_in (r j).said))
      (Each-map (IsNew j k before now) (IsLater m) (as_sent moment (messages_in (r j).said))
      (λ n new from same.
      absurd (true≢false (sym (eq-eqb i j (sym (turn_from i m w).0 ∙ sym from ∙ new.0)) ∙ parts.0)))
      (all_new j k before now moment (messages_in (r j).said) (turns j).counts)))
      (turn_is_apart moment i m w js parts.1)

  -- so that nothing that was sent, nor what these others say, has its name
  pub turn_unnamed : NamesOnce p → (moment i : ℕ) (m : Message) → Contains (messages_in (r i).said) m → (is : List ℕ)
      → is_among i is ≡ false → has_name_of m (p.sent ++ said_by_all moment r is) ≡ false
  turn_unnamed kept moment i m w is e =
      none-append m p.sent (said_by_all moment r is) (turn_is_new kept i m w) (turn_is_apart moment i m w is e)

  -- what one says is named once
  pub turn_once : (moment i : ℕ) → AreNamedOnce (sent_at moment (r i).said)
  unfolding as_sent
  turn_once moment i =
      new_named i (p.roster.incarnation i) (p.at i).ledger.messages (r i).local.ledger.messages moment
      (messages_in (r i).said) (turns i).counts
