use Rattle.std.proofs.Common.{◌≡◌, ◌==◌, ◌++◌, ◌∷◌, [], ℕ, Vec, Global, None, Some, true, false, cond, nat_cmp, rules, ap, sym, ◌∙◌}
use Rattle.std.specs.BTreeSet.{BTreeSet, contains}
use Rattle.std.specs.List.{list_any}
use Rattle.std.specs.Ordering.{is_eq}
use Rattle.std.proofs.lemmas.Bool.{not-false, not-true}
use Rattle.am_listing.specs.Receivers.{receiver_at, receivers_at}
use Rattle.am_listing.proofs.Counting.{route_new, route_seen, route_skipped, seen_again, seen_more}
use Rattle.am_listing.proofs.Lists.{apart-none}
use Rattle.am_listing.proofs.receivers.receivers_at.Goals.{in-Some+in_ok-insert+then-branch+in_ok-push, in-Some+in_ok-insert+else-branch, in_default}
use Rattle.am_listing.proofs.receivers.receivers_at.Goals as goal

pub loop-route-init : goal.loop-route-init
unfolding receivers_at
loop-route-init c = record { so_far = rw c.new-places.ensures.items (apart-none _); known = rw c.new-places.ensures.items (search rules) }

pub loop-route-preserved : goal.loop-route-preserved
loop-route-preserved c =
    let done = c.loop-route.places.items in
    let known = c.loop-route.invariant.known in
    let so_far = c.loop-route.invariant.so_far in
    elim c.match-receiver_at.branch [
      | in-Some+in_ok-insert+then-branch+in_ok-push w ↦ (
          let place = w.in-Some.place in
          let some : receiver_at c.args.config.now c.route-item.result ≡ Some place = sym c.receiver_at.ensures ∙ w.in-Some.is in
          let new : list_any (λ d. place == d) done ≡ false = sym (known place) ∙ not-true _ (sym w.in_ok-insert.ensures.added ∙ w.if-branch.true) in
          let items : c.match-receiver_at.places.items ≡ done ++ place ∷ [] = ap (λ (v : Vec ℕ Global). v.items) w.places-is ∙ w.in_ok-push.ensures.items in
          let seen : (q : ℕ) → contains nat_cmp c.match-receiver_at.seen q ≡ cond (is_eq (nat_cmp place q)) true (contains nat_cmp c.loop-route.seen q) =
          λ q. ap (λ (s : BTreeSet ℕ). contains nat_cmp s q) w.seen-is ∙ w.in_ok-insert.ensures.updates.0 q in
          record {
            so_far = route_new c.args.config.now c.args.routes.now c.loop-route.route-index c.route-item.result _ c.loop-route-test.true c.route-item.is done _ place some new items so_far;
            known = λ q. seen_more done place q _ _ (known q) (seen q) ∙ ap (λ ps. list_any (λ d. q == d) ps) (sym items);
          })
      | in-Some+in_ok-insert+else-branch w ↦ (
          let place = w.in-Some.place in
          let some : receiver_at c.args.config.now c.route-item.result ≡ Some place = sym c.receiver_at.ensures ∙ w.in-Some.is in
          let old : list_any (λ d. place == d) done ≡ true = sym (known place) ∙ not-false _ (sym w.in_ok-insert.ensures.added ∙ w.if-branch.false) in
          let items : c.match-receiver_at.places.items ≡ done = ap (λ (v : Vec ℕ Global). v.items) w.places-is in
          let seen : (q : ℕ) → contains nat_cmp c.match-receiver_at.seen q ≡ cond (is_eq (nat_cmp place q)) true (contains nat_cmp c.loop-route.seen q) =
          λ q. ap (λ (s : BTreeSet ℕ). contains nat_cmp s q) w.seen-is ∙ w.in_ok-insert.ensures.updates.0 q in
          record {
            so_far = rw items (route_seen c.args.config.now c.args.routes.now c.loop-route.route-index c.route-item.result _ c.loop-route-test.true c.route-item.is done place some old so_far);
            known = λ q. rw items (seen_again done place q _ _ old (known q) (seen q));
          })
      | in_default w ↦ (
          let none : receiver_at c.args.config.now c.route-item.result ≡ None = sym c.receiver_at.ensures ∙ w.in_default.is in
          let items : c.match-receiver_at.places.items ≡ done = ap (λ (v : Vec ℕ Global). v.items) w.places-is in
          record {
            so_far = rw items (route_skipped c.args.config.now c.args.routes.now c.loop-route.route-index c.route-item.result _ c.loop-route-test.true c.route-item.is done none so_far);
            known = λ q. rw (items, w.seen-is) (known q);
          })
    ]
