-- What an answer or an Ack makes of the operation that it is for, once that is found.
use Rattle.std.proofs.Common.{◌≡◌, ℕ, Bool, true, false, ◌==◌, List, Option, Some, None, is_some, refl, sym, ap, ◌∙◌}
use Rattle.std.specs.List.Sorted.{IsStrictlySortedBy}
use Rattle.std.specs.Map.{keys_of, values_of}
use Rattle.std.specs.Ordering.{nat_cmp}
use Rattle.am_quorum.specs.declared.operation.Answered.{Answered}
use Rattle.am_quorum.specs.declared.operation.Operation.{Operation}
use Rattle.am_quorum.specs.declared.operation.Ready.{Ready}
use Rattle.am_quorum.specs.declared.operation.Stage.{Stage}
use Rattle.am_quorum.specs.declared.operation.Stage.TheVariants.{Undecided, Decided}
use Rattle.am_quorum.specs.Dockets.{AreNumbered}
use Rattle.am_quorum.specs.Operations.{acked_by, acked_with, answered_by, first_ack, first_ack_by, first_answer, operation_at, operation_of, ready_by, ready_with, reply_for, reply_in, staged, without_operation}
use Rattle.am_quorum.proofs.Numbered.{found, found_passing, number_found, operation_in, there_passing}

-- the reply that goes out is the operation's
replies : (s : Stage) (from : ℕ) → is_some (reply_for s from) ≡ true → reply_for s from ≡ reply_in s
replies (Undecided first) from h = absurd (cc)
replies (Decided reply None) from h = absurd (cc)
replies (Decided reply (Some first)) from h = by_cases (first == from) refl
  where
    by_cases : (b : Bool) → (first == from) ≡ b → reply_for (Decided reply (Some first)) from ≡ Some reply
    by_cases true e =
        let none : is_some (reply_for (Decided reply (Some first)) from) ≡ false = rw e refl in
        absurd (cc)
    by_cases false e = rw e refl

-- .. and it ends the operation
ends : (from : ℕ) (o : Operation) (reply : Option (List ℕ)) (ops : List Operation) → is_some reply ≡ true → acked_with from o reply ops ≡ without_operation o.number ops
ends from o None ops h = absurd (cc)
ends from o (Some reply) ops h = refl

goes_on : (from : ℕ) (o : Operation) (reply : Option (List ℕ)) (ops : List Operation) → is_some reply ≡ false → acked_with from o reply ops ≡ first_ack o o.stage from ops
goes_on from o None ops h = refl
goes_on from o (Some reply) ops h = absurd (cc)

none_ready : (o : Operation) (reply : Option (List ℕ)) → is_some reply ≡ false → ready_with o reply ≡ None
none_ready o None h = refl
none_ready o (Some reply) h = absurd (cc)

module _ (n epoch : ℕ) (es : List (ℕ × Operation)) (up : IsStrictlySortedBy nat_cmp (keys_of es)) (numbered : AreNumbered es) (o : Operation) (of : Some o ≡ operation_of n epoch (values_of es)) where
  its : operation_in n es ≡ Some o
  its = there_passing (λ x. x.epoch == epoch) (operation_in n es) o (sym (found_passing n (λ x. x.epoch == epoch) es up numbered) ∙ sym of)

  at : operation_at n (values_of es) ≡ Some o
  at = found n es numbered ∙ its

  -- the first answer is kept
  pub first_kept : (answer : Answered) (now : List Operation) → o.stage ≡ Undecided None → now ≡ staged (Undecided (Some answer)) (operation_at n (values_of es)) (values_of es)
      → now ≡ answered_by answer (operation_of n epoch (values_of es)) (values_of es)
  first_kept answer now stage is =
      is ∙ ap (λ (x : Option Operation). staged (Undecided (Some answer)) x (values_of es)) at
      ∙ ap (λ (s : Stage). first_answer o s answer (values_of es)) (sym stage)
      ∙ ap (λ (x : Option Operation). answered_by answer x (values_of es)) of

  -- the second Ack
  pub reply_out : (from : ℕ) (closed : Operation) (out : Option Ready) → is_some (reply_for o.stage from) ≡ true → Some closed ≡ operation_at n (values_of es)
      → out ≡ ready_with closed (reply_in closed.stage) → out ≡ ready_by from (operation_of n epoch (values_of es))
  reply_out from closed out ready closing is =
      let both : Some closed ≡ Some o = closing ∙ at in
      let one : closed ≡ o = cc in
      is ∙ ap (λ (x : Operation). ready_with x (reply_in x.stage)) one ∙ ap (ready_with o) (sym (replies o.stage from ready)) ∙ ap (ready_by from) of

  pub closed_by : (from : ℕ) → is_some (reply_for o.stage from) ≡ true → without_operation n (values_of es) ≡ acked_by from (operation_of n epoch (values_of es)) (values_of es)
  closed_by from ready =
      ap (λ (k : ℕ). without_operation k (values_of es)) (sym (number_found n o es numbered its))
      ∙ sym (ends from o (reply_for o.stage from) (values_of es) ready) ∙ ap (λ (x : Option Operation). acked_by from x (values_of es)) of

  -- there is one
  pub is_ready : (from : ℕ) → is_some (reply_for o.stage from) ≡ true → is_some (ready_by from (operation_of n epoch (values_of es))) ≡ true
  is_ready from ready =
      ap (λ (x : Option Operation). is_some (ready_by from x)) (sym of) ∙ by_reply (reply_for o.stage from) ready
    where
      by_reply : (reply : Option (List ℕ)) → is_some reply ≡ true → is_some (ready_with o reply) ≡ true
      by_reply None h = absurd (cc)
      by_reply (Some reply) h = refl

  -- it was there to be closed
  pub was_there : None ≡ operation_at n (values_of es) → ⊥
  was_there none =
      let both : None ≡ Some o = none ∙ at in
      absurd (cc)

  -- any other Ack
  pub no_reply : (from : ℕ) → is_some (reply_for o.stage from) ≡ false → None ≡ ready_by from (operation_of n epoch (values_of es))
  no_reply from waits = sym (none_ready o (reply_for o.stage from) waits) ∙ ap (ready_by from) of

  pub first_acked : (from : ℕ) (now : List Operation) → is_some (reply_for o.stage from) ≡ false → now ≡ first_ack_by from (operation_at n (values_of es)) (values_of es)
      → now ≡ acked_by from (operation_of n epoch (values_of es)) (values_of es)
  first_acked from now waits is =
      is ∙ ap (λ (x : Option Operation). first_ack_by from x (values_of es)) at
      ∙ sym (goes_on from o (reply_for o.stage from) (values_of es) waits) ∙ ap (λ (x : Option Operation). acked_by from x (values_of es)) of
