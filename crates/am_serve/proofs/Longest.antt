-- Which client is longest without a byte moved, as one key more is looked at.
use Rattle.std.proofs.Common.{◌≡◌, ℕ, ◌+◌, ◌<◌, ◌≤◌, Option, Some, None, IfSome, length, refl, sym, subst, arith, inl, inr}
use Rattle.std.proofs.lemmas.Bool.{cases_lt}
use Rattle.std.proofs.lemmas.List.{get_or_past}
use Rattle.std.specs.declared.time.Instant.{Instant}
use Rattle.slab.specs.Slab.{Slab, get}
use Rattle.am_serve.specs.Giving.{Gives, GivesWay, GivesWayBelow, IsEarlier, LongestBelow, MovedAfter, MovedFrom}
use Rattle.am_serve.specs.declared.client.Client.{Client}
use Rattle.am_serve.specs.declared.giving.Wanted.{Wanted}
use borrow.Author.Count.{below_more}

if_some : {A : Type 0} {P Q : A → Type 0} (slot : Option A) → ((x : A) → P x → Q x) → IfSome slot P → IfSome slot Q
if_some None h p = tt
if_some (Some x) h p = h x p

module _ {S : Type 0} (wanted : Wanted) (clients : Slab (Client S)) where
  -- the client of the next key doesn't have what is wanted, or moved its last byte no earlier
  pub stays : (key : ℕ) (found : Option (ℕ × Instant))
      → IfSome (get clients key) (λ client. Gives wanted client → IsEarlier client.moved found → ⊥)
      → LongestBelow wanted clients key found → LongestBelow wanted clients (key + 1) found
  stays key None not below =
      below_more (λ k. IfSome (get clients k) (λ client. Gives wanted client → ⊥)) key below
      (if_some (get clients key) (λ client none gives. none gives tt) not)
  stays key (Some found) not below = record {
    client = below.client;
    there = below.there;
    gives = below.gives;
    moment = below.moment;
    below = omega (arith, below.below);
    longest = below_more (λ k. MovedFrom wanted found.1 (get clients k)) key below.longest
        (if_some (get clients key) (λ client none gives. omega (arith, none gives)) not);
    first = below.first;
  }

  -- it has, and moved its last byte earlier
  pub takes : (key : ℕ) (found : Option (ℕ × Instant)) (client : Client S) → get clients key ≡ Some client
      → Gives wanted client → IsEarlier client.moved found → LongestBelow wanted clients key found
      → GivesWayBelow wanted clients (key + 1) key client.moved
  takes key found client there gives earlier below = record {
    client = client;
    there = there;
    gives = gives;
    moment = refl;
    below = omega arith;
    longest = below_more (λ k. MovedFrom wanted client.moved (get clients k)) key (λ k lt. at_least found earlier below k lt)
        (subst (MovedFrom wanted client.moved) (sym there) (λ _. omega arith));
    first = λ k lt. later found earlier below k lt;
  }
    where
      later : (found : Option (ℕ × Instant)) → IsEarlier client.moved found → LongestBelow wanted clients key found
          → (k : ℕ) → k < key → MovedAfter wanted client.moved (get clients k)
      later None earlier below k lt = if_some (get clients k) (λ other none gives. absurd (none gives)) (below k lt)
      later (Some found) earlier below k lt =
          if_some (get clients k) (λ other from gives. omega (arith, earlier, from gives)) (below.longest k lt)

      at_least : (found : Option (ℕ × Instant)) → IsEarlier client.moved found → LongestBelow wanted clients key found
          → (k : ℕ) → k < key → MovedFrom wanted client.moved (get clients k)
      at_least found earlier below k lt =
          if_some (get clients k) (λ other after gives. omega (arith, after gives)) (later found earlier below k lt)

  either_way : (end : ℕ) (P : ℕ → Type 0) → ((k : ℕ) → k < end → P k) → ((k : ℕ) → end ≤ k → P k) → (k : ℕ) → P k
  either_way end P below above k = elim (cases_lt k end) [ inl lt ↦ below k lt | inr le ↦ above k le ]

  beyond : (end : ℕ) → length clients.slots ≤ end → (k : ℕ) → end ≤ k → get clients k ≡ None
  beyond end all k le = get_or_past clients.slots k None (omega (arith, all, le))

  -- where no client has a key from the end on, the one of the keys below it gives way
  pub gives : (end key : ℕ) (moved : Instant) → length clients.slots ≤ end → GivesWayBelow wanted clients end key moved → GivesWay wanted clients key
  gives end key moved all below = record {
    client = below.client;
    there = below.there;
    gives = below.gives;
    longest = rw below.moment (either_way end (λ k. MovedFrom wanted moved (get clients k)) below.longest
        (λ k le. subst (MovedFrom wanted moved) (sym (beyond end all k le)) tt));
    first = rw below.moment below.first;
  }
