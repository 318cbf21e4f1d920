use Rattle.am_table.proofs.TableLemmas.{rows_more}
use Rattle.am_table.proofs.table.all_taken.Goals as goal

pub loop-preserved : goal.loop-preserved
loop-preserved c = rows_more c.args.sets.now c.loop.table.items c.push.new.self.items c.in_ok-vec.field-0 c.loop.counter c.loop.invariant c.in_ok-push.ensures.items (c.in_ok-vec.ensures.items_if_clones_equal (λ y same. same))
