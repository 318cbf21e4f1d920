use Rattle.std.proofs.lemmas.Result.{on_ok_weaker}
use Rattle.am_test_store.proofs.PairLemmas.{drops_one}
use Rattle.am_test_store.proofs.test_store.TestStoreRows.drop_silence.Goals as goal

pub returns-clause-dropped : goal.returns-clause-dropped
returns-clause-dropped c = λ clean.
    on_ok_weaker c.drop_silences.result (λ are. drops_one c.args.tenant.now c.args.id.now _ _ are) (c.drop_silences.ensures.dropped clean)
