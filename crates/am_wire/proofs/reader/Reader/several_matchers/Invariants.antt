use Rattle.am_match.specs.Matchers.{IsMatcher}
use Rattle.am_wire.specs.ItemFields.{matcher_at, matcher_bytes}
use Rattle.am_wire.proofs.Several.{HasRead}
use Rattle.am_wire.proofs.reader.Reader.several_matchers.Given as goal

abbrev pub invariant-loop : goal.invariant-loop
invariant-loop l = HasRead (λ before. matcher_at) matcher_bytes (λ before. IsMatcher) l.count l.fn.self l.counter l.matchers.items l.self
