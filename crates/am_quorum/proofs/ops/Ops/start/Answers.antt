use Rattle.std.proofs.Common.{◌≡◌, ◌≤◌, ◌<◌, ◌+◌, ℕ, Option, Result, Ok, Err, IsErrOf, refl, sym, ap, ◌∙◌, arith, rules, unwrap_or, if◌then◌else◌}
use Rattle.std.specs.BTreeMap.{get}
use Rattle.std.specs.BTreeMap.Entry.{map_with_value}
use Rattle.std.specs.Result.{IsErrAnd}
use Rattle.am_item.specs.declared.fault.Fault.{Fault}
use Rattle.am_item.specs.declared.fault.Fault.TheVariants.{OutOfMemory, CountsExhausted}
use Rattle.am_tenant.specs.Names.{same}
use Rattle.am_timer.specs.Timer.{Timer}
use Rattle.am_quorum.specs.declared.operation.Operation.{Operation}
use Rattle.am_quorum.specs.Dockets.{Docket, added, docket_of, found_docket, no_docket, started}
use Rattle.am_quorum.specs.Operations.{opened, operation_at}
use Rattle.am_quorum.proofs.Deadlines.{of_err, of_ok}
use Rattle.am_quorum.proofs.Seen.{at_error, docket_seen, dockets_same, each_changed, each_kept, found_or_new, tenants}
use Rattle.am_quorum.proofs.Started.{given_up, has_next, is_opened, is_unchanged, none_set, same_entries, set_again}
use Rattle.am_quorum.proofs.ops.Ops.start.Goals as goal

not_both : {T : Type 0} (r : Result T Fault) → IsErrAnd r (λ fault. fault ≡ OutOfMemory) → IsErrOf r CountsExhausted → ⊥
not_both (Ok x) memory counts = memory
not_both (Err fault) memory counts = cc

other_fault : IsErrOf {T = ℕ} (Err OutOfMemory) CountsExhausted → ⊥
other_fault h = cc

no_fault : {n : ℕ} → IsErrOf {T = ℕ} (Ok n) CountsExhausted → ⊥
no_fault h = cc

few : {d : Docket} → d ≡ no_docket → 4611686018427387904 ≤ d.used → ⊥
few {d} none le = omega (arith, ap (λ (e : Docket). e.used) none)

no_more : {d was : Docket} → d ≡ was → was.used < 4611686018427387904 → 4611686018427387904 ≤ d.used → ⊥
no_more {d} {was} own lt le = omega (arith, ap (λ (e : Docket). e.used) own)

pub returns-in_err-self-inside-clause-fault : goal.returns-in_err-self-inside-clause-fault
returns-in_err-self-inside-clause-fault c =
    let tenant = c.args.request.tenant in
    let i = c.self.inside.incarnation in
    let none : docket_of tenant c.args.self.now ≡ no_docket = ap (docket_of tenant) (sym c.self.view_is) ∙ docket_seen i tenant c.self.inside.dockets ∙ ap found_docket c.in_err-self-inside.ensures.absent in
    (λ h. absurd (not_both c.from_residual.result c.from_residual.ensures.1 h), λ le. absurd (few none le))

-- ---- no number is left

pub invariant_of-self-in_default : goal.invariant_of-self-in_default
invariant_of-self-in_default c =
    let tenant = c.args.request.tenant in
    let entry = c.in_ok-self-inside.ensures in
    let i = c.self.inside.incarnation in
    let m = c.self.inside.dockets in
    let was = c.or_insert-docket.result.now in
    let n = map_with_value c.in_ok-self-inside.field-0 was in
    let found = found_or_new (get tenants m tenant) c.new.result was c.new.ensures (c.or_insert-docket.ensures.value ∙ ap (λ (o : Option Docket). unwrap_or o c.new.result) entry.value) in
    same_entries i _ n.entries c.self.inside.timers.timers (is_unchanged i m n tenant was was (entry.update.0 was).0 (entry.update.2 was) found refl c.self.inside.timers.timers c.self.inside.timers.timers c.self.invariant refl) (search rules)

pub returns-in_default-clause-fault : goal.returns-in_default-clause-fault
returns-in_default-clause-fault c =
    let tenant = c.args.request.tenant in
    let entry = c.in_ok-self-inside.ensures in
    let m = c.self.inside.dockets in
    let was = c.or_insert-docket.result.now in
    let found = found_or_new (get tenants m tenant) c.new.result was c.new.ensures (c.or_insert-docket.ensures.value ∙ ap (λ (o : Option Docket). unwrap_or o c.new.result) entry.value) in
    let own : docket_of tenant c.args.self.now ≡ was = ap (docket_of tenant) (sym c.self.view_is) ∙ docket_seen c.self.inside.incarnation tenant m ∙ found in
    (λ h. given_up (docket_of tenant c.args.self.now) was own c.in_default.ensures.number, λ le. refl)

pub returns-in_default-clause-err : goal.returns-in_default-clause-err
returns-in_default-clause-err c =
    let tenant = c.args.request.tenant in
    let entry = c.in_ok-self-inside.ensures in
    let i = c.self.inside.incarnation in
    let m = c.self.inside.dockets in
    let was = c.or_insert-docket.result.now in
    let n = map_with_value c.in_ok-self-inside.field-0 was in
    let found = found_or_new (get tenants m tenant) c.new.result was c.new.ensures (c.or_insert-docket.ensures.value ∙ ap (λ (o : Option Docket). unwrap_or o c.new.result) entry.value) in
    λ t. dockets_same i t _ n.entries _ (each_kept i m n tenant was was (entry.update.0 was).0 found refl t ∙ ap (docket_of t) c.self.view_is) (search rules)

-- ---- the timer isn't set

pub invariant_of-self-in_err-set : goal.invariant_of-self-in_err-set
invariant_of-self-in_err-set c =
    let tenant = c.args.request.tenant in
    let entry = c.in_ok-self-inside.ensures in
    let i = c.self.inside.incarnation in
    let m = c.self.inside.dockets in
    let was = c.or_insert-docket.result.now in
    let n = map_with_value c.in_ok-self-inside.field-0 was in
    let found = found_or_new (get tenants m tenant) c.new.result was c.new.ensures (c.or_insert-docket.ensures.value ∙ ap (λ (o : Option Docket). unwrap_or o c.new.result) entry.value) in
    let next = has_next was c.in-Some.number c.in-Some.ensures.number in
    same_entries i _ n.entries c.set.new.self.timers (none_set i m n tenant was (entry.update.0 was).0 (entry.update.2 was) found c.self.inside.timers.timers c.set.new.self.timers c.self.invariant
    c.in-Some.number c.deadline_name-name.result c.deadline_name-name.ensures
    (ap (λ k. operation_at k was.operations) next.1 ∙ c.next_number.ensures.unused) c.in_err-set.ensures.err) (search rules)

pub returns-in_err-set-clause-fault : goal.returns-in_err-set-clause-fault
returns-in_err-set-clause-fault c =
    let tenant = c.args.request.tenant in
    let entry = c.in_ok-self-inside.ensures in
    let m = c.self.inside.dockets in
    let was = c.or_insert-docket.result.now in
    let found = found_or_new (get tenants m tenant) c.new.result was c.new.ensures (c.or_insert-docket.ensures.value ∙ ap (λ (o : Option Docket). unwrap_or o c.new.result) entry.value) in
    let own : docket_of tenant c.args.self.now ≡ was = ap (docket_of tenant) (sym c.self.view_is) ∙ docket_seen c.self.inside.incarnation tenant m ∙ found in
    let next = has_next was c.in-Some.number c.in-Some.ensures.number in
    (λ h. absurd (not_both c.from_residual-in_err-set.result c.from_residual-in_err-set.ensures.1 h), λ le. absurd (no_more own next.0 le))

pub returns-in_err-set-clause-err : goal.returns-in_err-set-clause-err
returns-in_err-set-clause-err c =
    let tenant = c.args.request.tenant in
    let entry = c.in_ok-self-inside.ensures in
    let i = c.self.inside.incarnation in
    let m = c.self.inside.dockets in
    let was = c.or_insert-docket.result.now in
    let n = map_with_value c.in_ok-self-inside.field-0 was in
    let found = found_or_new (get tenants m tenant) c.new.result was c.new.ensures (c.or_insert-docket.ensures.value ∙ ap (λ (o : Option Docket). unwrap_or o c.new.result) entry.value) in
    at_error c.from_residual-in_err-set.result
    (λ t. dockets_same i t _ n.entries _ (each_kept i m n tenant was was (entry.update.0 was).0 found refl t ∙ ap (docket_of t) c.self.view_is) (search rules))

-- ---- the operation isn't added

pub invariant_of-self-then-is_err : goal.invariant_of-self-then-is_err
invariant_of-self-then-is_err c =
    let tenant = c.args.request.tenant in
    let entry = c.in_ok-self-inside.ensures in
    let i = c.self.inside.incarnation in
    let m = c.self.inside.dockets in
    let was = c.or_insert-docket.result.now in
    let now = c.add.new.self in
    let n = map_with_value c.in_ok-self-inside.field-0 now in
    let found = found_or_new (get tenants m tenant) c.new.result was c.new.ensures (c.or_insert-docket.ensures.value ∙ ap (λ (o : Option Docket). unwrap_or o c.new.result) entry.value) in
    let next = has_next was c.in-Some.number c.in-Some.ensures.number in
    let timer : Timer = record { due = c.deadline-due.result; name = c.deadline_name-name.result } in
    let same : now ≡ was = of_err c.add.result (sym c.is_err.ensures.value ∙ c.if-is_err.true) c.add.ensures.err in
    same_entries i _ n.entries c.cancel_deadline.new.timers.timers (set_again i m n tenant was now (entry.update.0 now).0 (entry.update.2 now) found same c.self.inside.timers.timers c.set.new.self.timers c.cancel_deadline.new.timers.timers c.self.invariant
    c.in-Some.number timer c.deadline_name-name.ensures (ap (λ k. operation_at k was.operations) next.1 ∙ c.next_number.ensures.unused)
    c.in_ok-set.ensures.set c.cancel_deadline.ensures) (search rules)

pub returns-then-is_err-clause-fault : goal.returns-then-is_err-clause-fault
returns-then-is_err-clause-fault c =
    let tenant = c.args.request.tenant in
    let entry = c.in_ok-self-inside.ensures in
    let m = c.self.inside.dockets in
    let was = c.or_insert-docket.result.now in
    let found = found_or_new (get tenants m tenant) c.new.result was c.new.ensures (c.or_insert-docket.ensures.value ∙ ap (λ (o : Option Docket). unwrap_or o c.new.result) entry.value) in
    let own : docket_of tenant c.args.self.now ≡ was = ap (docket_of tenant) (sym c.self.view_is) ∙ docket_seen c.self.inside.incarnation tenant m ∙ found in
    let next = has_next was c.in-Some.number c.in-Some.ensures.number in
    (λ h. absurd (other_fault h), λ le. absurd (no_more own next.0 le))

pub returns-then-is_err-clause-err : goal.returns-then-is_err-clause-err
returns-then-is_err-clause-err c =
    let tenant = c.args.request.tenant in
    let entry = c.in_ok-self-inside.ensures in
    let i = c.self.inside.incarnation in
    let m = c.self.inside.dockets in
    let was = c.or_insert-docket.result.now in
    let now = c.add.new.self in
    let n = map_with_value c.in_ok-self-inside.field-0 now in
    let found = found_or_new (get tenants m tenant) c.new.result was c.new.ensures (c.or_insert-docket.ensures.value ∙ ap (λ (o : Option Docket). unwrap_or o c.new.result) entry.value) in
    let same : now ≡ was = of_err c.add.result (sym c.is_err.ensures.value ∙ c.if-is_err.true) c.add.ensures.err in
    λ t. dockets_same i t _ n.entries _ (each_kept i m n tenant was now (entry.update.0 now).0 found same t ∙ ap (docket_of t) c.self.view_is) (search rules)

-- ---- it is opened

pub invariant_of-self-else-is_err : goal.invariant_of-self-else-is_err
invariant_of-self-else-is_err c =
    let tenant = c.args.request.tenant in
    let entry = c.in_ok-self-inside.ensures in
    let i = c.self.inside.incarnation in
    let m = c.self.inside.dockets in
    let was = c.or_insert-docket.result.now in
    let now = c.add.new.self in
    let n = map_with_value c.in_ok-self-inside.field-0 now in
    let found = found_or_new (get tenants m tenant) c.new.result was c.new.ensures (c.or_insert-docket.ensures.value ∙ ap (λ (o : Option Docket). unwrap_or o c.new.result) entry.value) in
    let next = has_next was c.in-Some.number c.in-Some.ensures.number in
    let operation : Operation = opened c.args.connection c.args.request c.args.started_at c.args.epoch c.in-Some.number in
    let timer : Timer = record { due = c.deadline-due.result; name = c.deadline_name-name.result } in
    let more : now ≡ added operation was = of_ok c.add.result (sym c.is_err.ensures.value ∙ c.if-is_err.false) c.add.ensures.added in
    same_entries i _ n.entries c.set.new.self.timers (is_opened i m n tenant was now (entry.update.0 now).0 (entry.update.2 now) found c.self.inside.timers.timers c.set.new.self.timers c.self.invariant
    operation timer more c.deadline_name-name.ensures c.deadline-due.ensures (ap (λ k. operation_at k was.operations) next.1 ∙ c.next_number.ensures.unused) c.in_ok-set.ensures.set) (search rules)

pub returns-clause-number : goal.returns-clause-number
returns-clause-number c =
    let tenant = c.args.request.tenant in
    let entry = c.in_ok-self-inside.ensures in
    let m = c.self.inside.dockets in
    let was = c.or_insert-docket.result.now in
    let found = found_or_new (get tenants m tenant) c.new.result was c.new.ensures (c.or_insert-docket.ensures.value ∙ ap (λ (o : Option Docket). unwrap_or o c.new.result) entry.value) in
    let own : docket_of tenant c.args.self.now ≡ was = ap (docket_of tenant) (sym c.self.view_is) ∙ docket_seen c.self.inside.incarnation tenant m ∙ found in
    (has_next was c.in-Some.number c.in-Some.ensures.number).1 ∙ ap (λ (d : Docket). d.used + 1) (sym own)

pub returns-clause-each : goal.returns-clause-each
returns-clause-each c =
    let tenant = c.args.request.tenant in
    let entry = c.in_ok-self-inside.ensures in
    let i = c.self.inside.incarnation in
    let m = c.self.inside.dockets in
    let was = c.or_insert-docket.result.now in
    let now = c.add.new.self in
    let n = map_with_value c.in_ok-self-inside.field-0 now in
    let one = started (opened c.args.connection c.args.request c.args.started_at c.args.epoch) in
    let found = found_or_new (get tenants m tenant) c.new.result was c.new.ensures (c.or_insert-docket.ensures.value ∙ ap (λ (o : Option Docket). unwrap_or o c.new.result) entry.value) in
    let next = has_next was c.in-Some.number c.in-Some.ensures.number in
    let more : now ≡ one was =
    of_ok c.add.result (sym c.is_err.ensures.value ∙ c.if-is_err.false) c.add.ensures.added
    ∙ ap (λ k. added (opened c.args.connection c.args.request c.args.started_at c.args.epoch k) was) next.1 in
    λ t.
    dockets_same i t _ n.entries _
    (each_changed i m n tenant one was now (entry.update.0 now).0 found more t ∙ ap (λ d. if same t tenant then one (docket_of t d) else docket_of t d) c.self.view_is)
    (search rules)

pub returns-clause-fault : goal.returns-clause-fault
returns-clause-fault c =
    let tenant = c.args.request.tenant in
    let entry = c.in_ok-self-inside.ensures in
    let m = c.self.inside.dockets in
    let was = c.or_insert-docket.result.now in
    let found = found_or_new (get tenants m tenant) c.new.result was c.new.ensures (c.or_insert-docket.ensures.value ∙ ap (λ (o : Option Docket). unwrap_or o c.new.result) entry.value) in
    let own : docket_of tenant c.args.self.now ≡ was = ap (docket_of tenant) (sym c.self.view_is) ∙ docket_seen c.self.inside.incarnation tenant m ∙ found in
    let next = has_next was c.in-Some.number c.in-Some.ensures.number in
    (λ h. absurd (no_fault h), λ le. absurd (no_more own next.0 le))
