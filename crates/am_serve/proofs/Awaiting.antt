-- Which client waits for the reply to a connection, as one key more is looked at.
use Rattle.std.proofs.Common.{◌≡◌, ℕ, ◌+◌, ◌<◌, ◌≤◌, Option, Some, None, IfSome, length, sym, subst, arith, inl, inr}
use Rattle.std.specs.Prelude.{IsSomeAnd}
use Rattle.std.proofs.lemmas.Bool.{cases_lt}
use Rattle.std.proofs.lemmas.List.{get_or_past}
use Rattle.slab.specs.Slab.{Slab, get}
use Rattle.am_serve.specs.Clients.{AwaitsOn}
use Rattle.am_serve.specs.Giving.{NoneAwaits}
use Rattle.am_serve.specs.declared.client.Client.{Client}
use borrow.Author.Count.{below_more}

not_some : {A : Type 0} (P : A → Type 0) (slot : Option A) → (IsSomeAnd slot P → ⊥) → IfSome slot (λ x. P x → ⊥)
not_some P None h = tt
not_some P (Some x) h = h

module _ {S : Type 0} (connection : ℕ) (clients : Slab (Client S)) where
  -- no client waits for it at this key
  abbrev NotAt : ℕ → Type 0
  NotAt key = IfSome (get clients key) (λ client. AwaitsOn connection client → ⊥)

  -- .. nor at any below one
  abbrev pub NoneBelow : ℕ → Type 0
  NoneBelow end = (key : ℕ) → key < end → NotAt key

  pub none_more : (end : ℕ) → NoneBelow end → (IsSomeAnd (get clients end) (AwaitsOn connection) → ⊥) → NoneBelow (end + 1)
  none_more end none not = below_more NotAt end none (not_some (AwaitsOn connection) (get clients end) not)

  -- no client has a key from the end on
  pub none_at_all : (end : ℕ) → length clients.slots ≤ end → NoneBelow end → NoneAwaits connection clients
  none_at_all end all none key = elim (cases_lt key end) [
    | inl lt ↦ none key lt
    | inr le ↦ subst (λ slot. IfSome slot (λ client. AwaitsOn connection client → ⊥))
        (sym (get_or_past clients.slots key None (omega (arith, all, le)))) tt
  ]
