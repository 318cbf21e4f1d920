use Rattle.std.proofs.Common.{◌∙◌, ◌++◌, ap}
use Rattle.am_test_store.proofs.PairLemmas.{puts}
use Rattle.am_test_store.proofs.test_store.TestStoreRows.put.Goals as goal

pub returns-clause-put : goal.returns-clause-put
returns-clause-put c = λ clean.
    let old = c.args.self.now.pairs.items in
    puts c.args.tenant.now c.args.items.now old c.append.new.self.items
    (c.in_ok-append.ensures.items ∙ ap (λ ps. ps.items ++ c.in_ok-pairs.pairs.items) c.begin.ensures.pairs ∙ ap (λ ps. old ++ ps) c.in_ok-pairs.ensures)
