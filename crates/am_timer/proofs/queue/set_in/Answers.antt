use Rattle.std.proofs.Common.{◌≡◌, ℕ, List, Option, cond, Some, None, sym, ap, subst, ◌∙◌}
use Rattle.std.specs.Ordering.{is_eq}
use Rattle.am_timer.specs.Queue.{without}
use Rattle.am_timer.specs.Tied.{IsTied, due_in}
use Rattle.am_timer.specs.Timer.{Name, Timer, name_cmp}
use Rattle.am_timer.proofs.TiedLemmas.{set_already, tied_back, tied_with}
use Rattle.am_timer.proofs.queue.set_in.Goals as goal

-- a change at a name is one at its copy
along : (a b : Name) (before after : List (Name × ℕ)) (w : Option ℕ) → a ≡ b → ((n : Name) → due_in after n ≡ cond (is_eq (name_cmp a n)) w (due_in before n)) → (n : Name) → due_in after n ≡ cond (is_eq (name_cmp b n)) w (due_in before n)
along a b before after w same updates n = updates n ∙ ap (λ (m : Name). cond (is_eq (name_cmp m n)) w (due_in before n)) same

pub returns-in-Err-clause-tied : goal.returns-in-Err-clause-tied
returns-in-Err-clause-tied c =
    let name = c.args.timer.name in
    subst (λ (ys : List Timer). IsTied ys c.remove.new.self.entries) (sym c.in-Err.ensures.err)
    (tied_back c.forget.new.by_due.keys c.args.by_due.now.keys c.forget.new.dues.entries c.insert.new.self.entries c.remove.new.self.entries name (Some c.args.timer.due)
    (subst (λ (n : Name). c.forget.new.by_due.keys ≡ without n c.args.by_due.now.keys) c.in_ok-name.ensures c.forget.ensures.kept) c.forget.ensures.tied
    (along c.in_ok-name.name name c.forget.new.dues.entries c.insert.new.self.entries (Some c.args.timer.due) c.in_ok-name.ensures c.in_ok-insert.ensures.updates.0)
    (along c.in-Err.refused.value.name name c.insert.new.self.entries c.remove.new.self.entries None (ap (λ (x : Timer). x.name) c.in-Err.ensures.value_returned) c.remove.ensures.updates.0))

pub returns-clause-tied : goal.returns-clause-tied
returns-clause-tied c =
    let name = c.args.timer.name in
    subst (λ (ys : List Timer). IsTied ys c.insert.new.self.entries) (sym c.in_default.ensures.keys)
    (tied_with c.forget.new.by_due.keys c.args.by_due.now.keys c.forget.new.dues.entries c.insert.new.self.entries c.args.timer
    (subst (λ (n : Name). c.forget.new.by_due.keys ≡ without n c.args.by_due.now.keys) c.in_ok-name.ensures c.forget.ensures.kept) c.forget.ensures.tied
    (along c.in_ok-name.name name c.forget.new.dues.entries c.insert.new.self.entries (Some c.args.timer.due) c.in_ok-name.ensures c.in_ok-insert.ensures.updates.0))

pub returns-then-is_set-clause-set : goal.returns-then-is_set-clause-set
returns-then-is_set-clause-set c = sym (set_already c.args.by_due.now.keys c.args.dues.now.entries c.args.timer c.requires.tied (c.is_set.ensures c.if-is_set.true))
