use Rattle.am_store.proofs.Shelves.{kept_blank}
use Rattle.am_store.proofs.made.Shelf+MemStore.in_memory.Goals as goal

pub returns-clause-blank : goal.returns-clause-blank
returns-clause-blank c = rw (c.new.ensures) (kept_blank _ c.in_ok-open_in_memory.ensures.empty.2)
