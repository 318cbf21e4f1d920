use Rattle.am_wire.specs.ItemFields.{IsItem, item_at, item_bytes}
use Rattle.am_wire.proofs.Several.{HasRead}
use Rattle.am_wire.proofs.reader.Reader.several_items.Given as goal

abbrev pub invariant-loop : goal.invariant-loop
invariant-loop l = HasRead (λ before. item_at) item_bytes (λ before. IsItem) l.count l.fn.self l.counter l.items.items l.self
