use Rattle.std.proofs.Common.{rules, sym, subst, take}
use Rattle.std.proofs.lemmas.List.{take_all}
use Rattle.std.proofs.lemmas.List.Elements.{All-more, All-same}
use Rattle.am_store.specs.Rows.{IsConfig}
use Rattle.am_store.proofs.opening.test_configs.Goals as goal

pub loop-row-preserved : goal.loop-row-preserved
loop-row-preserved c = All-more IsConfig c.args.rows.now c.loop-row.row-index c.row-item.result c.loop-row-test.true c.loop-row.invariant (subst IsConfig c.row-item.is c.in_ok-read_config.ensures.reads.is)

pub returns-clause-ok : goal.returns-clause-ok
returns-clause-ok c = All-same IsConfig c.args.rows.now (take c.loop-row.row-index c.args.rows.now) (sym (take_all c.loop-row.row-index c.args.rows.now (search rules))) c.loop-row.invariant
