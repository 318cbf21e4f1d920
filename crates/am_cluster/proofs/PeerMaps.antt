-- What a map by peers has once something was put at one of them.
use Rattle.std.proofs.Common.{◌≡◌, ◌≢◌, false, cond, [], ◌∷◌, Some, None, Ordering, Less, Equal, Greater, is_eq, nat_cmp, refl, sym, ap, ◌∙◌, ◌⊎◌, inl, inr}
use Rattle.std.specs.Ordering.{match_ordering, ordering_then}
use Rattle.std.proofs.lemmas.Bool.{false≢true}
use Rattle.std.proofs.lemmas.Cmp.{nat_cmp_total, tied_itself}
use Rattle.std.proofs.lemmas.Map.Lookups.{exact_unsigned}
use Rattle.am_item.proofs.Order.{then_equal}
use Rattle.am_transfer.specs.Peers.{ByPeer, Peer, at_peer, peer_cmp, with_peer}

peer_exact : (a b : Peer) → peer_cmp a b ≡ Equal → a ≡ b
peer_exact a b h =
    let both = then_equal (nat_cmp a.instance b.instance) (nat_cmp a.incarnation b.incarnation) h in
    ap (λ i. let p : Peer = record { instance = i; incarnation = a.incarnation } in p) (exact_unsigned a.instance b.instance both.0)
    ∙ ap (λ k. let p : Peer = record { instance = b.instance; incarnation = k } in p) (exact_unsigned a.incarnation b.incarnation both.1)

peer_self : (p : Peer) → peer_cmp p p ≡ Equal
peer_self p =
    ap (λ o. ordering_then o (nat_cmp p.incarnation p.incarnation)) (tied_itself nat_cmp_total p.instance)
    ∙ tied_itself nat_cmp_total p.incarnation

not_by : (q p : Peer) (o : Ordering) → peer_cmp q p ≡ o → q ≢ p → is_eq o ≡ false
not_by q p Less e other = refl
not_by q p Equal e other = absurd (other (peer_exact q p e))
not_by q p Greater e other = refl

not_at : (q p : Peer) → q ≢ p → is_eq (peer_cmp q p) ≡ false
not_at q p other = not_by q p (peer_cmp q p) refl other

module _ {A : Type 0} (p : Peer) (x : A) where
  same_by : (e : Peer × A) (es : ByPeer A) (o : Ordering) → peer_cmp p e.0 ≡ o → at_peer p (with_peer p x es) ≡ Some x
      → at_peer p (match_ordering o ((p, x) ∷ e ∷ es) ((e.0, x) ∷ es) (e ∷ with_peer p x es)) ≡ Some x
  same_by e es Less eq rest = ap (λ o. cond (is_eq o) (Some x) (at_peer p (e ∷ es))) (peer_self p)
  same_by e es Equal eq rest = ap (λ o. cond (is_eq o) (Some x) (at_peer p es)) eq
  same_by e es Greater eq rest = ap (λ o. cond (is_eq o) (Some e.1) (at_peer p (with_peer p x es))) eq ∙ rest

  pub at_same : (es : ByPeer A) → at_peer p (with_peer p x es) ≡ Some x
  at_same [] = ap (λ o. cond (is_eq o) (Some x) None) (peer_self p)
  at_same (e ∷ es) = same_by e es (peer_cmp p e.0) refl (at_same es)

  other_by : (q : Peer) (e : Peer × A) (es : ByPeer A) (o : Ordering) → peer_cmp p e.0 ≡ o → q ≢ p
      → at_peer q (with_peer p x es) ≡ at_peer q es
      → at_peer q (match_ordering o ((p, x) ∷ e ∷ es) ((e.0, x) ∷ es) (e ∷ with_peer p x es)) ≡ at_peer q (e ∷ es)
  other_by q e es Less eq other rest = ap (λ b. cond b (Some x) (at_peer q (e ∷ es))) (not_at q p other)
  other_by q e es Equal eq other rest =
      let far : is_eq (peer_cmp q e.0) ≡ false = not_at q e.0 (λ same. other (same ∙ sym (peer_exact p e.0 eq))) in
      ap (λ b. cond b (Some x) (at_peer q es)) far ∙ sym (ap (λ b. cond b (Some e.1) (at_peer q es)) far)
  other_by q e es Greater eq other rest = ap (λ r. cond (is_eq (peer_cmp q e.0)) (Some e.1) r) rest

  pub at_other : (q : Peer) (es : ByPeer A) → q ≢ p → at_peer q (with_peer p x es) ≡ at_peer q es
  at_other q [] other = ap (λ b. cond b (Some x) None) (not_at q p other)
  at_other q (e ∷ es) other = other_by q e es (peer_cmp p e.0) refl other (at_other q es other)

not_less : Less ≡ Equal → ⊥
not_less e = false≢true (ap is_eq e)

not_greater : Greater ≡ Equal → ⊥
not_greater e = false≢true (ap is_eq e)

cases_by : (q p : Peer) (o : Ordering) → peer_cmp q p ≡ o → (q ≡ p) ⊎ (q ≢ p)
cases_by q p Equal e = inl (peer_exact q p e)
cases_by q p Less e = inr (λ same. not_less (sym e ∙ ap (λ r. peer_cmp r p) same ∙ peer_self p))
cases_by q p Greater e = inr (λ same. not_greater (sym e ∙ ap (λ r. peer_cmp r p) same ∙ peer_self p))

pub peer_cases : (q p : Peer) → (q ≡ p) ⊎ (q ≢ p)
peer_cases q p = cases_by q p (peer_cmp q p) refl
