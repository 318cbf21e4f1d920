use Rattle.std.proofs.Common.{ap, cond, ◌∙◌}
use Rattle.am_tenant.specs.Names.{same}
use Rattle.am_words.specs.Places.{place_of}
use Rattle.am_words.proofs.PlaceLemmas.{place_of-set}
use Rattle.am_words.proofs.places.Places.set.Goals as goal

pub returns-clause-placed : goal.returns-clause-placed
returns-clause-placed c = λ t.
    place_of-set c.self.inside.used c.insert.new.self c.args.tenant.now c.args.place c.in_ok-insert.ensures.updates t
    ∙ ap (λ old. cond (same t c.args.tenant.now) c.args.place (place_of t old)) c.self.view_is
