use Rattle.std.proofs.Common.{◌≡◌, IsTrue, take}
use Rattle.sqlite.specs.Held.{state}
use Rattle.sqlite.specs.State.{HasCleanDisk, KeepsCommit, Survives}
use Rattle.sqlite.specs.Effect.{IsDatabase}
use Rattle.am_store.specs.Failing.{IsReady, PutsEach}
use Rattle.am_store.specs.Rows.{IsStore}
use Rattle.am_store.specs.Steps.{Stores}
use Rattle.am_store.specs.Stored.{stored_items}
use Rattle.am_store.proofs.commit.put_each.Given as goal

abbrev pub invariant-loop-item : goal.invariant-loop-item
invariant-loop-item g l = record {
  same : l.tx.conn.ghost_name ≡ l.fn.tx.conn.ghost_name;
  survives : Survives (state g.S.Store l.fn.tx.conn.now) (state g.S.Store l.tx.conn.now) (λ _. ⊥);
  kept : HasCleanDisk (state g.S.Store l.tx.conn.now) → IsStore (state g.S.Store l.fn.tx.conn.now).now → KeepsCommit (state g.S.Store l.fn.tx.conn.now) (state g.S.Store l.tx.conn.now);
  inside : HasCleanDisk (state g.S.Store l.tx.conn.now) → IsStore (state g.S.Store l.fn.tx.conn.now).now
      → IsTrue (state g.S.Store l.fn.tx.conn.now).in_transaction → IsTrue (state g.S.Store l.tx.conn.now).in_transaction;
  goes : HasCleanDisk (state g.S.Store l.tx.conn.now) → IsStore (state g.S.Store l.fn.tx.conn.now).now
      → Stores l.tenant (stored_items (take l.item-index l.items)) (state g.S.Store l.fn.tx.conn.now).now (state g.S.Store l.tx.conn.now).now;
  sound : HasCleanDisk (state g.S.Store l.tx.conn.now) → IsReady (state g.S.Store l.fn.tx.conn.now) → IsDatabase (state g.S.Store l.tx.conn.now).now;
  puts : HasCleanDisk (state g.S.Store l.tx.conn.now) → IsStore (state g.S.Store l.fn.tx.conn.now).now
      → PutsEach l.tenant (stored_items (take l.item-index l.items)) (state g.S.Store l.fn.tx.conn.now).now (state g.S.Store l.tx.conn.now).now;
}
