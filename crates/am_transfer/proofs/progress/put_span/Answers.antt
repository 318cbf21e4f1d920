use Rattle.std.proofs.Common.{◌≡◌, [], ap, ◌∙◌, rules, unwrap_or}
use Rattle.am_transfer.specs.Peers.{ByNumber, at_peer, with_number, with_peer}
use Rattle.am_transfer.specs.Pieces.{Span}
use Rattle.am_transfer.proofs.Maps.{after_that}
use Rattle.am_transfer.proofs.progress.put_span.Goals as goal

pub returns-clause-came : goal.returns-clause-came
returns-clause-came c =
    let entry = c.in_ok-came.ensures in
    let now = c.put.new.self in
    let es = c.args.came.now.entries in
    let was : c.or_insert-spans.result.now ≡ unwrap_or (at_peer c.args.sender es) [] =
    c.or_insert-spans.ensures.value ∙ ap (λ o. unwrap_or o c.new.result) entry.value ∙ ap (λ (fresh : ByNumber Span). unwrap_or (at_peer c.args.sender es) fresh) c.new.ensures in
    after_that _ _
    (entry.update.1 now
    ∙ ap (λ (spans : ByNumber Span). with_peer c.args.sender spans es)
    (c.in_ok-put.ensures.put ∙ ap (λ (spans : ByNumber Span). with_number c.args.place c.args.span spans) was))
    (search rules)
