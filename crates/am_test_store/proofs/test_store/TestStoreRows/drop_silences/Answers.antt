use Rattle.std.proofs.Common.{◌∙◌, ap, filter, not}
use Rattle.am_rows.specs.Rows.{is_among}
use Rattle.am_test_store.proofs.PairLemmas.{drops_each}
use Rattle.am_test_store.proofs.test_store.TestStoreRows.drop_silences.Goals as goal

pub returns-clause-dropped : goal.returns-clause-dropped
returns-clause-dropped c = λ clean.
    drops_each c.args.silences.now c.args.self.now.pairs.items c.leave_others.new.pairs.items
    (c.leave_others.ensures ∙ ap (λ ps. filter (λ p. not (is_among p.0 c.args.silences.now p.1)) ps.items) c.in_ok-begin.ensures.pairs)
