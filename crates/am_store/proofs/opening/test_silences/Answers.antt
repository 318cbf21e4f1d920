use Rattle.std.proofs.Common.{rules, sym, subst, take}
use Rattle.std.proofs.lemmas.List.{take_all}
use Rattle.std.proofs.lemmas.List.Elements.{All-more, All-same}
use Rattle.am_store.specs.Rows.{IsSilenceRow}
use Rattle.am_store.proofs.opening.test_silences.Goals as goal

pub loop-row-preserved : goal.loop-row-preserved
loop-row-preserved c = All-more IsSilenceRow c.args.rows.now c.loop-row.row-index c.row-item.result c.loop-row-test.true c.loop-row.invariant (subst IsSilenceRow c.row-item.is c.in_ok-read_silence.ensures.reads.is)

pub returns-clause-ok : goal.returns-clause-ok
returns-clause-ok c = All-same IsSilenceRow c.args.rows.now (take c.loop-row.row-index c.args.rows.now) (sym (take_all c.loop-row.row-index c.args.rows.now (search rules))) c.loop-row.invariant
