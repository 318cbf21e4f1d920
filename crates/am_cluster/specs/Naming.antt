-- What keeps the names of a tenant's messages apart. A message is named by its sender, the sender's incarnation, its
-- receiver and its count; and the sender's ledger has the greatest count so far of its incarnation. So what an instance
-- sends next has a name that no message had before.
use Rattle.std.specs.Prelude.{◌≡◌, ℕ, ◌≤◌, true, All}
use Rattle.am_cluster.specs.Messages.{Message}
use Rattle.am_cluster.specs.PrivateCluster.{PrivateCluster}
use Rattle.am_cluster.specs.Sent.{Sent}
use Rattle.am_cluster.specs.SentFacts.{AreNamedOnce}

-- a message is of no later incarnation than its sender, and where that is up in that incarnation, counted there
pub record IsPast (p : PrivateCluster) (m : Message) : Type 0 where
  pub incarnation : m.incarnation ≤ p.roster.incarnation m.from
  pub counted : p.roster.up m.from ≡ true → m.incarnation ≡ p.roster.incarnation m.from
      → m.count ≤ (p.at m.from).ledger.messages

-- what was sent has each name once, and what is sent next has others
pub record NamesOnce (p : PrivateCluster) : Type 0 where
  pub named : AreNamedOnce p.sent
  pub past : All (λ (s : Sent). IsPast p s.message) p.sent
