use Rattle.std.proofs.Common.{◌≡◌, ◌<◌, ◌-◌, ◌∙◌, ◌++◌, ◌∷◌, [], IsTrue, ap, arith, get_or, length, map, rules, sym, subst}
use Rattle.std.specs.declared.cmp.Ordering.TheVariants.{Less}
use Rattle.std.proofs.lemmas.List.{get_or_default}
use Rattle.am_item.specs.Best.{IsRising}
use Rattle.am_item.specs.Key.{key_cmp, key_of}
use Rattle.am_item.specs.declared.item.Item.{Item}
use Rattle.am_store.specs.Reading.{KeysRise}
use Rattle.am_store.proofs.InOrder.{rising_push}
use Rattle.am_store.proofs.KeyOrder.{last_below}
use Rattle.am_store.proofs.rows.push.Goals.{then-len-gt0+in_ok-rises+else-not-rises, else-len-gt0}
use Rattle.am_store.proofs.rows.push.Goals as goal

pub returns-clause-rising : goal.returns-clause-rising
returns-clause-rising c rising =
    let was = c.args.items.now.items in
    let long : c.len-len.result ≡ length was = search rules in
    let above : (d : Item) → 0 < length was → key_cmp (key_of (get_or was (length was - 1) d)) (key_of c.in_ok-item.item) ≡ Less =
    λ d some. elim c.if-len-gt0.branch [
      | then-len-gt0+in_ok-rises+else-not-rises w ↦
          let item = w.index.result.now in
          let is : item ≡ get_or was (length was - 1) d =
          w.index.ensures ∙ ap (λ n. get_or was (n - 1) item) long ∙ get_or_default was (length was - 1) item d (omega (arith, some)) in
          let rises : IsTrue w.in_ok-rises.rises = search rules in
          subst (λ (x : Item). key_cmp (key_of x) (key_of c.in_ok-item.item) ≡ Less) is (w.in_ok-rises.ensures.0 rises)
      | else-len-gt0 w ↦ absurd (omega (arith, some, long, w.if-len-gt0.false))
    ] in
    subst IsRising (sym c.in_ok-push.ensures.items) (rising_push was c.in_ok-item.item rising above)

pub returns-then-not-rises-clause-given : goal.returns-then-not-rises-clause-given
returns-then-not-rises-clause-given c rise =
    let was = c.args.items.now.items in
    let item = c.index.result.now in
    let long : c.len-len.result ≡ length was = search rules in
    let some : 0 < length was = search rules in
    let is : item ≡ get_or was (length was - 1) item = c.index.ensures ∙ ap (λ n. get_or was (n - 1) item) long in
    let rises_on = subst (λ (x : Item). KeysRise (map key_of was ++ key_of x ∷ [])) (sym c.in_ok-item.ensures) rise in
    let last = subst (λ (x : Item). key_cmp (key_of x) (key_of c.in_ok-item.item) ≡ Less) (sym is) (last_below was c.in_ok-item.item item some rises_on) in
    let rises : IsTrue c.in_ok-rises.rises = c.in_ok-rises.ensures.1 last in
    absurd (search rules)
