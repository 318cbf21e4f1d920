-- What was returned for a request is what may be decided on it, and there is room for what it stores.
use Rattle.std.proofs.Common.{◌≡◌, inl, inr, ◌∙◌, ℕ, ◌+◌, ◌<◌, ◌≤◌, true, List, [], length, Result, Ok, Err, IfOk, refl, ap, arith}
use Rattle.am_alert.specs.Made.{counts_fit, greatest_count}
use Rattle.am_alert.specs.declared.maker.Maker.{Maker}
use Rattle.am_api.specs.Choice.{MayDecide}
use Rattle.am_api.specs.Deciding.{DecidesBy, IsUnbuilt, decision_of}
use Rattle.am_api.specs.Decision.{decided}
use Rattle.am_api.specs.Patterns.{patterns_of_request}
use Rattle.am_api.specs.Refusing.{Refuses}
use Rattle.am_api.specs.Replied.{Decision}
use Rattle.am_api.specs.declared.decision.Decided.{Decided}
use Rattle.am_api.proofs.Counts.{room}
use Rattle.am_http.specs.declared.request.Request.{Request}
use Rattle.am_item.specs.declared.fault.Fault.{Fault}
use Rattle.am_item.specs.declared.item.Item.{Item}
use Rattle.am_limit.specs.declared.limits.Limits.{Limits}
use Rattle.am_pattern.specs.Cache.{Cache}
use Rattle.rand_chacha.specs.ChaCha.{ChaCha}

-- a refusal for a pattern has no items
pub no_items : (d : Decision) → IsUnbuilt d → d.items ≡ []
no_items d (inl e) = ap (λ (x : Decision). x.items) e
no_items d (inr (inl e)) = ap (λ (x : Decision). x.items) e
no_items d (inr (inr e)) = ap (λ (x : Decision). x.items) e

-- what was returned for a request on which this is the decision, where these texts are asked of what is stored
abbrev pub Returns : (old new : Cache) → Result Decided Fault → Request → Limits → (stored : List (List ℕ)) → Decision → Type 0
Returns old new result request limits stored decision =
    DecidesBy (Refuses request limits old new) old.refused new.refused (patterns_of_request request) stored result decision

module _ (old new : Cache) (request : Request) (limits : Limits) (stored : List (List ℕ)) where
  pub may_decide : (result : Result Decided Fault) (decision : Decision) → Returns old new result request limits stored decision
      → IfOk result (λ d. MayDecide old.refused new.refused request limits decision (decision_of d))
  may_decide (Ok d) decision (inl right) = inl (right.0.0, right.1)
  may_decide (Ok d) decision (inr (refuses, (unbuilt, own))) = inr (record {
    old = old;
    new = new;
    had = refl;
    has = refl;
    refuses = refuses;
    unbuilt = unbuilt;
    own = own;
  })
  may_decide (Err fault) decision returned = tt

  pub items_fit : (result : Result Decided Fault) (decision : Decision) → Returns old new result request limits stored decision
      → IfOk result (λ d. counts_fit d.items.items ≡ true)
  items_fit (Ok d) decision (inl right) = ap (λ (x : Decision). counts_fit x.items) right.0.0 ∙ right.0.1
  items_fit (Ok d) decision (inr (refuses, (unbuilt, own))) = ap counts_fit (no_items (decision_of d) unbuilt)
  items_fit (Err fault) decision returned = tt

  -- the stamps that were counted, and those of the items, are none past the greatest
  pub items_have_room : (result : Result Decided Fault) (held : List Item) (of : Limits) (moment : ℕ) (maker : Maker) (words : ChaCha)
      → Returns old new result request limits stored (decided request held of moment maker words)
      → IfOk result (λ d. 0 < length d.items.items → maker.used + length d.items.items ≤ greatest_count)
  items_have_room (Ok d) held of moment maker words (inl right) = λ some.
      let items = ap (λ (x : Decision). x.items) right.0.0 in
      rw items (room request held of moment maker words right.0.1 (rw items at some))
  items_have_room (Ok d) held of moment maker words (inr (refuses, (unbuilt, own))) = λ some.
      let none = no_items (decision_of d) unbuilt in
      let never : 0 < 0 = rw none at some in absurd (omega arith)
  items_have_room (Err fault) held of moment maker words returned = tt
