use Rattle.std.proofs.Common.{ap, cond, ◌∙◌}
use Rattle.am_tenant.specs.Names.{same}
use Rattle.am_limit.specs.Books.{limits_of}
use Rattle.am_limit.proofs.BookLemmas.{limits_of-set}
use Rattle.am_limit.proofs.book.LimitBook.set.Goals as goal

pub returns-clause-set : goal.returns-clause-set
returns-clause-set c = λ t.
    limits_of-set c.self.inside.usual c.self.inside.own c.insert.new.self c.args.tenant.now c.args.limits c.in_ok-insert.ensures.updates.0 t
    ∙ ap (λ old. cond (same t c.args.tenant.now) c.args.limits (limits_of t old)) c.self.view_is
