-- What a turn leaves of a table of calls.
use Rattle.std.proofs.Common.{◌≡◌, ℕ, Option, Some, unwrap_or, ap, ◌∙◌, subst}
use Rattle.slab.specs.Slab.{Slab, get, with_value}
use Rattle.am_serve.specs.declared.call.Call.{Call}
use Rattle.am_serve.specs.declared.call.Step.{Step}
use Rattle.am_serve.specs.declared.calls.Progress.{Progress}
use Rattle.am_serve.specs.Acts.{Act}
use Rattle.am_serve.specs.Calls.{CallWorks}
use Rattle.am_serve.specs.CallTables.{CallTurnAt, Leaves, step_of}
use Rattle.am_serve.proofs.Turns.{get_with}

module _ {S N : Type 0} (does : S → Act → S → Type 0) where
  -- a turn at a key that has a call
  pub call_turned : (old new : Slab (Call S N)) (key : ℕ) (call last : Call S N) (progress : Progress N) → Some call ≡ get old key → CallWorks does 16 call last (step_of progress)
      → Leaves call last (get new key) progress → CallTurnAt does old new key (get old key) (Some progress)
  call_turned old new key call last progress here works left = subst (λ slot. CallTurnAt does old new key slot (Some progress)) here (last, works, left)

  -- the name of the call that was let go
  pub name_kept : (old : Slab (Call S N)) (key : ℕ) (call last gone : Call S N) (name : N) (step : Step) → Some call ≡ get old key → CallWorks does 16 call last step
      → Some gone ≡ get (with_value old key last) key → name ≡ gone.name → name ≡ call.name
  name_kept old key call last gone name step here works left is =
      let same : gone ≡ last = ap (λ (slot : Option (Call S N)). unwrap_or slot last) (left ∙ get_with old key call last here) in
      is ∙ ap (λ (c : Call S N). c.name) same ∙ works.moves.name
