use Rattle.std.proofs.Common.{◌≡◌, true, false, ap, sym, ◌∙◌}
use Rattle.std.specs.List.{list_all}
use Rattle.am_transfer.specs.Progress.{Progress, on}
use Rattle.am_transfer.specs.Settling.{Settling, is_merged, now_settled, with_span}
use Rattle.am_transfer.proofs.Named.{all_came, some_lacking}
use Rattle.am_transfer.proofs.progress.Progress.take.Goals as goal

pub returns-then-has_all-clause-settling : goal.returns-then-has_all-clause-settling
returns-then-has_all-clause-settling c =
    let s = with_span c.args.sender c.args.place c.args.span c.args.self.now.settling in
    let added = c.in_ok-behind.ensures.settling in
    let all : list_all (is_merged s) c.args.others.now ≡ true =
    ap (λ (p : Progress). list_all (is_merged p.settling) c.args.others.now) (sym added) ∙ sym c.has_all.ensures ∙ c.if-has_all.true in
    c.settle.ensures ∙ ap (on now_settled) added ∙ sym (ap (λ (t : Settling). on (λ u. t) c.args.self.now) (all_came c.args.others.now s all))

pub returns-else-has_all-clause-settling : goal.returns-else-has_all-clause-settling
returns-else-has_all-clause-settling c =
    let s = with_span c.args.sender c.args.place c.args.span c.args.self.now.settling in
    let added = c.in_ok-behind.ensures.settling in
    let some : list_all (is_merged s) c.args.others.now ≡ false =
    ap (λ (p : Progress). list_all (is_merged p.settling) c.args.others.now) (sym added) ∙ sym c.has_all.ensures ∙ c.if-has_all.false in
    added ∙ sym (ap (λ (t : Settling). on (λ u. t) c.args.self.now) (some_lacking c.args.others.now s some))
