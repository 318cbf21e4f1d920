use Rattle.std.proofs.Common.{◌≡◌, ℕ, ◌==◌, Bool, true, false, Some, None, refl, sym, ap, ◌∙◌, arith}
use Rattle.std.proofs.lemmas.Bool.Decides.{nat_tests}
use Rattle.am_quorum.specs.declared.operation.Operation.{Operation}
use Rattle.am_quorum.proofs.Numbered.{found_passing, passing}
use Rattle.am_quorum.proofs.docket.Docket.find.Goals as goal
use Rattle.am_quorum.proofs.docket.Docket.find.Goals.{in_default-via-in-Some+else-operation-epoch, in_default-via-in_default}

same_epoch : (a b : ℕ) → a ≡ b → (a == b) ≡ true
same_epoch a b h = grind (arith, nat_tests)

other_epoch : (a b : ℕ) → (a ≡ b → ⊥) → (a == b) ≡ false
other_epoch a b h = grind (arith, nat_tests)

passes : (p : Operation → Bool) (o : Operation) → p o ≡ true → passing p (Some o) ≡ Some o
passes p o h = rw h refl

fails : (p : Operation → Bool) (o : Operation) → p o ≡ false → passing p (Some o) ≡ None
fails p o h = rw h refl

pub returns-in-Some : goal.returns-in-Some
returns-in-Some c =
    let p : Operation → Bool = λ o. o.epoch == c.args.epoch in
    let o = c.in-Some.operation.now in
    rw (← c.self.view_is) (sym (
    found_passing c.args.number p c.self.inside.operations.entries c.self.invariant.rising c.self.invariant.numbered
    ∙ ap (passing p) (sym c.in-Some.ensures.value) ∙ passes p o (same_epoch o.epoch c.args.epoch c.if-operation-epoch.true)
    ))

pub returns-in_default : goal.returns-in_default
returns-in_default c =
    let p : Operation → Bool = λ o. o.epoch == c.args.epoch in
    let is = found_passing c.args.number p c.self.inside.operations.entries c.self.invariant.rising c.self.invariant.numbered in
    rw (← c.self.view_is) (sym (is ∙ elim c.in_default.branch [
      | in_default-via-in-Some+else-operation-epoch w ↦
          let o = w.in-Some.operation.now in
          ap (passing p) (sym w.in-Some.ensures.value) ∙ fails p o (other_epoch o.epoch c.args.epoch w.if-operation-epoch.false)
      | in_default-via-in_default w ↦ ap (passing p) (sym w.in_default.ensures.value)
    ]))
