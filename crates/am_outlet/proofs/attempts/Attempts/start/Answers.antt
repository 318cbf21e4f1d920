use Rattle.std.proofs.Common.{◌≡◌, ◌⊎◌, ◌≤◌, ◌+◌, Option, Result, Ok, Err, IsErrOf, inl, inr, sym, ap, ◌∙◌, subst, arith, rules, unwrap_or, if◌then◌else◌}
use Rattle.std.specs.BTreeMap.{get}
use Rattle.std.specs.BTreeMap.Entry.{map_with_value}
use Rattle.std.specs.Result.{IsErrAnd}
use Rattle.std.proofs.lemmas.Result.{IfOk-weaker, on_err_weaker, on_ok_weaker}
use Rattle.am_item.specs.declared.fault.Fault.{Fault}
use Rattle.am_item.specs.declared.fault.Fault.TheVariants.{OutOfMemory, CountsExhausted}
use Rattle.am_tenant.specs.Names.{same}
use Rattle.am_outlet.specs.Attempts.{Desk, no_attempts, sending_of, started, without}
use Rattle.am_outlet.specs.Desks.{desk_of}
use Rattle.am_outlet.proofs.Seen.{at_error, desk_seen, desks_same, desks_unchanged, each_changed, each_kept, found_desk, found_or_new, others_at_error, others_either, tenants}
use Rattle.am_outlet.proofs.attempts.Attempts.start.Goals as goal

not_both : {T : Type 0} (r : Result T Fault) → IsErrAnd r (λ fault. fault ≡ OutOfMemory) → IsErrOf r CountsExhausted → ⊥
not_both (Ok x) memory counts = memory
not_both (Err fault) memory counts = cc

pub returns-in_err-self-inside-clause-err : goal.returns-in_err-self-inside-clause-err
returns-in_err-self-inside-clause-err c =
    let stay : c.entry.follows.lender-at-none.entries ≡ c.self.inside.desks.entries = search rules in
    at_error c.from_residual.result (inl (λ t. desks_unchanged t _ _ stay ∙ ap (desk_of t) c.self.view_is))

pub returns-in_err-self-inside-clause-others : goal.returns-in_err-self-inside-clause-others
returns-in_err-self-inside-clause-others c =
    let stay : c.entry.follows.lender-at-none.entries ≡ c.self.inside.desks.entries = search rules in
    others_at_error c.args.notice.key c.args.tenant.now _ _ (inl (λ t. desks_unchanged t _ _ stay ∙ ap (desk_of t) c.self.view_is))

pub returns-in_err-self-inside-clause-fault : goal.returns-in_err-self-inside-clause-fault
returns-in_err-self-inside-clause-fault c =
    let none : desk_of c.args.tenant.now c.args.self.now ≡ no_attempts = ap (desk_of c.args.tenant.now) (sym c.self.view_is) ∙ desk_seen c.args.tenant.now c.self.inside.desks c.self.invariant ∙ ap found_desk c.in_err-self-inside.ensures.absent in
    (λ h. absurd (not_both c.from_residual.result c.from_residual.ensures.1 h), λ le. absurd (few none le))
  where
    few : {d : Desk} → d ≡ no_attempts → 4611686018427387904 ≤ d.used → ⊥
    few {d} none le = omega (arith, ap (λ (e : Desk). e.used) none)

pub returns-clause-sending : goal.returns-clause-sending
returns-clause-sending c =
    let entry = c.in_ok-self-inside.ensures in
    let was = c.or_insert-desk.result.now in
    let found = found_or_new (get tenants c.self.inside.desks c.args.tenant.now) c.new.result was c.new.ensures (c.or_insert-desk.ensures.value ∙ ap (λ (o : Option Desk). unwrap_or o c.new.result) entry.value) in
    let own : desk_of c.args.tenant.now c.args.self.now ≡ was = ap (desk_of c.args.tenant.now) (sym c.self.view_is) ∙ desk_seen c.args.tenant.now c.self.inside.desks c.self.invariant ∙ found in
    IfOk-weaker c.start.result _ _ (λ sending is. is ∙ ap (λ (d : Desk). sending_of (d.used + 1) 1 c.args.notice) (sym own)) c.start.ensures.sending

pub returns-clause-fault : goal.returns-clause-fault
returns-clause-fault c =
    let entry = c.in_ok-self-inside.ensures in
    let was = c.or_insert-desk.result.now in
    let found = found_or_new (get tenants c.self.inside.desks c.args.tenant.now) c.new.result was c.new.ensures (c.or_insert-desk.ensures.value ∙ ap (λ (o : Option Desk). unwrap_or o c.new.result) entry.value) in
    let own : desk_of c.args.tenant.now c.args.self.now ≡ was = ap (desk_of c.args.tenant.now) (sym c.self.view_is) ∙ desk_seen c.args.tenant.now c.self.inside.desks c.self.invariant ∙ found in
    let Full : Desk → Type 0 = λ d. 4611686018427387904 ≤ d.used in
    (λ h. subst Full (sym own) (c.start.ensures.fault.0 h), λ le. c.start.ensures.fault.1 (subst Full own le))

pub returns-clause-each : goal.returns-clause-each
returns-clause-each c =
    let entry = c.in_ok-self-inside.ensures in
    let m = c.self.inside.desks in
    let was = c.or_insert-desk.result.now in
    let now = c.start.new.self in
    let found = found_or_new (get tenants c.self.inside.desks c.args.tenant.now) c.new.result was c.new.ensures (c.or_insert-desk.ensures.value ∙ ap (λ (o : Option Desk). unwrap_or o c.new.result) entry.value) in
    on_ok_weaker c.start.result
    (λ is t.
    desks_same t _ (map_with_value c.in_ok-self-inside.field-0 now) _
    (each_changed m (map_with_value c.in_ok-self-inside.field-0 now) c.args.tenant.now (started c.args.notice) c.self.invariant was now (entry.update.2 now) (entry.update.0 now).0 found is t
    ∙ ap (λ d. if same t c.args.tenant.now then started c.args.notice (desk_of t d) else desk_of t d) c.self.view_is)
    (search rules))
    c.start.ensures.started

pub returns-clause-err : goal.returns-clause-err
returns-clause-err c =
    let entry = c.in_ok-self-inside.ensures in
    let m = c.self.inside.desks in
    let was = c.or_insert-desk.result.now in
    let now = c.start.new.self in
    let n = map_with_value c.in_ok-self-inside.field-0 now in
    let found = found_or_new (get tenants c.self.inside.desks c.args.tenant.now) c.new.result was c.new.ensures (c.or_insert-desk.ensures.value ∙ ap (λ (o : Option Desk). unwrap_or o c.new.result) entry.value) in
    on_err_weaker c.start.result
    (λ (either : (c.start.new.self ≡ c.or_insert-desk.result.now) ⊎ (c.start.new.self ≡ without c.args.notice.key c.or_insert-desk.result.now)). elim either [
      | inl is ↦ inl (λ t.
          desks_same t _ n _ (each_kept m n c.args.tenant.now c.self.invariant was now (entry.update.2 now) (entry.update.0 now).0 found is t ∙ ap (desk_of t) c.self.view_is) (search rules))
      | inr is ↦ inr (λ t.
          desks_same t _ n _
          (each_changed m n c.args.tenant.now (without c.args.notice.key) c.self.invariant was now (entry.update.2 now) (entry.update.0 now).0 found is t
          ∙ ap (λ d. if same t c.args.tenant.now then without c.args.notice.key (desk_of t d) else desk_of t d) c.self.view_is)
          (search rules))
    ])
    c.start.ensures.err

pub returns-clause-others : goal.returns-clause-others
returns-clause-others c = others_either c.start.result (started c.args.notice) c.args.notice.key c.args.tenant.now _ _ (returns-clause-each c) (returns-clause-err c)
