-- An operation is opened.
use Rattle.std.proofs.Common.{◌≡◌, ◌↔◌, ℕ, ◌+◌, ◌≤◌, ◌++◌, ◌∷◌, [], nat_le, List, Result, Ok, Err, IfErr, IfOk, IsErrOf, OnOk, ap, refl, sym, ◌∙◌}
use Rattle.am_cluster.specs.Here.{Here}
use Rattle.am_cluster.specs.Operating.{begin, operation_for}
use Rattle.am_context.proofs.Changes.{one_changes, other, own}
use Rattle.am_context.proofs.Counting.{fits, no_error, passes}
use Rattle.am_http.specs.declared.request.Request.{Request}
use Rattle.am_item.specs.Counts.{count_of}
use Rattle.am_item.specs.declared.fault.Fault.{Fault}
use Rattle.am_item.specs.declared.fault.Fault.TheVariants.{OutOfMemory, CountsExhausted, PatternNotBuilt, StoreRefused}
use Rattle.am_node.specs.Held.{local_of as local_in_node}
use Rattle.am_quorum.specs.Dockets.{Changes, Ops, docket_of, started}
use Rattle.am_quorum.specs.Operations.{opened}
use Rattle.am_transfer.specs.Tenants.{settling_of}
use Rattle.am_site.specs.Locals.{from_rooms, local_of}
use Rattle.am_site.specs.Reacting.{Does, StopsReacting}
use Rattle.am_site.specs.declared.site.Site.{Site}

module _ (here : Here) (connection : ℕ) (request : Request) (tenant : List ℕ) (old : Site) where
  abbrev used : ℕ
  used = (docket_of tenant old.operations).used

  -- its number is the next one, and is used from then on
  pub begins : (ops : Ops) (r : Result ℕ Fault) → ops.incarnation ≡ old.operations.incarnation → IfOk r (λ n. n ≡ used + 1)
      → OnOk r (Changes tenant (started (opened connection request here.moment here.epoch)) old.operations ops)
      → (IsErrOf r CountsExhausted ↔ (4611686018427387904 ≤ used))
      → IfOk r (λ n. Does tenant (begin (operation_for here connection request n)) old (record { node = old.node; operations = ops; sent = old.sent; settling = old.settling; elsewhere = old.elsewhere }))
  unfolding local_of
  begins ops (Err fault) kept number each past = tt
  begins ops (Ok n) kept number each past =
      let node = local_in_node tenant old.node in
      let sent = count_of tenant old.sent in
      let settling = settling_of tenant old.settling.progress in
      let d = docket_of tenant old.operations in
      record {
        local = one_changes tenant (λ l. (begin (operation_for here connection request n) l).local) (λ t. local_of t old) (λ t. local_of t (record { node = old.node; operations = ops; sent = old.sent; settling = old.settling; elsewhere = old.elsewhere }))
            (ap (λ docket. from_rooms node docket sent settling) (own tenant _ _ _ (each tenant))
            ∙ ap (λ m. from_rooms node (record { used = m; operations = d.operations ++ opened connection request here.moment here.epoch m ∷ [] }) sent settling) (sym number))
            (λ t apart. ap (λ docket. from_rooms (local_in_node t old.node) docket (count_of t old.sent) (settling_of t old.settling.progress)) (other t tenant _ _ _ apart (each t)));
        said = refl;
        fits = ap (λ m. nat_le m 4611686018427387904) number ∙ fits used (λ le. no_error n CountsExhausted (past.1 le));
        keeps = record { incarnation = kept; positions = λ t. refl; asked = λ t. refl; timed = λ timed. timed };
      }

  pub stops : (r : Result ℕ Fault) → (IsErrOf r CountsExhausted ↔ (4611686018427387904 ≤ used)) → (IsErrOf r PatternNotBuilt → ⊥) → (IsErrOf r StoreRefused → ⊥)
      → IfErr r (λ fault. StopsReacting tenant (begin (operation_for here connection request (used + 1))) old fault)
  stops (Ok n) past pattern store = tt
  stops (Err OutOfMemory) past pattern store = tt
  stops (Err CountsExhausted) past pattern store = passes used (past.0 refl)
  stops (Err PatternNotBuilt) past pattern store = pattern refl
  stops (Err StoreRefused) past pattern store = store refl
