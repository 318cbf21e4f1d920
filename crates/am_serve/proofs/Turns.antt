-- What a turn leaves of a table of clients.
use Rattle.std.proofs.Common.{◌≡◌, ◌≢◌, ℕ, ◌+◌, ◌-◌, ◌<◌, true, false, Option, Some, None, IfSome, refl, sym, ap, ◌∙◌, subst, List, [], ◌∷◌, zero, suc, get_or, length, arith}
use Rattle.std.proofs.lemmas.List.{get_or-set_other, get_or-set_same}
use Rattle.std.proofs.lemmas.Bool.{false≢true}
use Rattle.std.specs.declared.time.Instant.{Instant}
use Rattle.slab.specs.Slab.{Slab, get, with_value}
use Rattle.am_serve.specs.declared.client.Client.{Client}
use Rattle.am_serve.specs.declared.client.Turn.{Turn}
use Rattle.am_serve.specs.declared.host.Verdict.{Verdict}
use Rattle.am_serve.specs.Acts.{Act}
use Rattle.am_serve.specs.Clients.{Turned, excess_of, lets_go}
use Rattle.am_serve.specs.Pools.{excess_in, most_for}
use Rattle.am_serve.specs.Tables.{LetsGo, TakesTurnAt}

module _ {T : Type 0} where
  -- a key that has a value is within the table
  pub within : (xs : List (Option T)) (key : ℕ) (value : T) → Some value ≡ get_or xs key None → key < length xs
  within [] zero value h = absurd (cc)
  within [] (suc key) value h = absurd (cc)
  within (x ∷ xs) zero value h = omega arith
  within (x ∷ xs) (suc key) value h = omega (arith, within xs key value h)

  pub get_with : (table : Slab T) (key : ℕ) (old new : T) → Some old ≡ get table key → get (with_value table key new) key ≡ Some new
  get_with table key old new h = get_or-set_same table.slots key (Some new) None (within table.slots key old h)

  -- another key keeps what it had
  pub get_beside : (table : Slab T) (key : ℕ) (new : T) (other : ℕ) → other ≢ key → get (with_value table key new) other ≡ get table other
  get_beside table key new other not = get_or-set_other table.slots key other (Some new) None not

module _ {S H : Type 0} (does : S → Act → S → Type 0) (takes : H → ℕ → List ℕ → Verdict → H → Type 0) (closes : H → ℕ → H → Type 0) (now : Instant) where
  abbrev At : Slab (Client S) → Slab (Client S) → ℕ → Option (Client S) → H → H → Option Turn → Type 0
  At old new key slot before after result = TakesTurnAt does takes closes now old new key slot before after result

  -- the bound of the turn is that of the table
  bounded : (pooled excess : ℕ) (slots : List (Option (Client S))) (client last : Client S) (before middle : H) (turn : Turn) → pooled ≡ excess_in slots → excess ≡ excess_of client
      → Turned does takes 16 (32768 + (33554432 - (pooled - excess))) now client last before middle turn → Turned does takes 16 (most_for slots client) now client last before middle turn
  bounded pooled excess slots client last before middle turn p e h =
      subst (λ (most : ℕ). Turned does takes 16 most now client last before middle turn) (ap (λ n. 32768 + (33554432 - (n - excess))) p ∙ ap (λ n. 32768 + (33554432 - (excess_in slots - n))) e) h

  -- the client is kept
  pub kept : (old : Slab (Client S)) (key pooled excess : ℕ) (client last : Client S) (before middle : H) (turn : Turn) → Some client ≡ get old key → pooled ≡ excess_in old.slots → excess ≡ excess_of client
      → Turned does takes 16 (32768 + (33554432 - (pooled - excess))) now client last before middle turn → lets_go turn ≡ false → At old (with_value old key last) key (get old key) before middle (Some turn)
  kept old key pooled excess client last before middle turn here p e turned stays =
      subst (λ slot. At old (with_value old key last) key slot before middle (Some turn)) here record {
        last = last;
        middle = middle;
        turned = bounded pooled excess old.slots client last before middle turn p e turned;
        stays = λ _. (get_with old key client last here, refl);
        goes = λ goes. absurd (false≢true (sym stays ∙ goes));
      }

  -- the client is let go
  pub let_go : (old new : Slab (Client S)) (key pooled excess : ℕ) (client last : Client S) (before middle after : H) (turn : Turn) → Some client ≡ get old key → pooled ≡ excess_in old.slots → excess ≡ excess_of client
      → Turned does takes 16 (32768 + (33554432 - (pooled - excess))) now client last before middle turn → lets_go turn ≡ true
      → IfSome (get (with_value old key last) key) (λ there. LetsGo closes there (get new key) middle after) → At old new key (get old key) before after (Some turn)
  let_go old new key pooled excess client last before middle after turn here p e turned goes left =
      subst (λ slot. At old new key slot before after (Some turn)) here record {
        last = last;
        middle = middle;
        turned = bounded pooled excess old.slots client last before middle turn p e turned;
        stays = λ stays. absurd (false≢true (sym stays ∙ goes));
        goes = λ _. subst (λ slot. IfSome slot (λ there. LetsGo closes there (get new key) middle after)) (get_with old key client last here) left;
      }
