-- Instances in one of their incarnations, and what is kept by the number of an instance or for such a one.
use Rattle.std.specs.Prelude.{ℕ, ◌==◌, not, List, Option, filter}
use Rattle.std.specs.BTreeMap.{insert_entry, is_at}
use Rattle.std.specs.Map.{lookup}
use Rattle.std.specs.Ordering.{nat_cmp, ordering_then}
use Rattle.std.specs.declared.cmp.Ordering.{Ordering}
use Rattle.am_transfer.specs.declared.peer.Peer.{Peer as DeclaredPeer}

-- an instance in one incarnation: what it sent or got in another isn't meant
abbrev pub Peer : Type 0
Peer = DeclaredPeer

abbrev pub peer : (instance incarnation : ℕ) → Peer
peer instance incarnation = record { instance = instance; incarnation = incarnation }

abbrev pub peer_cmp : Peer → Peer → Ordering
peer_cmp a b = ordering_then (nat_cmp a.instance b.instance) (nat_cmp a.incarnation b.incarnation)

-- a map by peers, in their order: what it has at one, and with something put there
abbrev pub ByPeer : Type 0 → Type 0
ByPeer A = List (Peer × A)

abbrev pub at_peer : {A : Type 0} → Peer → ByPeer A → Option A
at_peer p entries = lookup (is_at (peer_cmp p)) entries

abbrev pub with_peer : {A : Type 0} → Peer → A → ByPeer A → ByPeer A
with_peer p x entries = insert_entry peer_cmp entries p x

-- a map by numbers, in their order: what it has at one, with something put there, and without what stands there
abbrev pub ByNumber : Type 0 → Type 0
ByNumber A = List (ℕ × A)

abbrev pub at_number : {A : Type 0} → ℕ → ByNumber A → Option A
at_number n entries = lookup (λ k. n == k) entries

abbrev pub with_number : {A : Type 0} → ℕ → A → ByNumber A → ByNumber A
with_number n x entries = insert_entry nat_cmp entries n x

abbrev pub without_number : {A : Type 0} → ℕ → ByNumber A → ByNumber A
without_number n entries = filter (λ e. not (n == e.0)) entries
