use Rattle.std.proofs.Common.{◌∙◌, ap, sym}
use Rattle.std.specs.List.{list_any}
use Rattle.am_tenant.specs.Names.{same}
use Rattle.am_test_store.proofs.PairLemmas.{unnamed}
use Rattle.am_test_store.proofs.test_store.TestStoreRows.tenants.Goals as goal

pub returns-clause-names : goal.returns-clause-names
returns-clause-names c = λ clean t none.
    unnamed t c.args.self.now.pairs.items
    (ap (λ ps. list_any (λ p. same t p.0) ps.items) (sym c.begin.ensures.pairs)
    ∙ ap (list_any (λ p. same t p.0)) (sym c.deref.ensures.value)
    ∙ sym (c.in_ok-names.ensures.names t) ∙ none)
