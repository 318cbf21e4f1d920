use Rattle.std.proofs.Common.{ap, sym, ◌∙◌, unwrap_or}
use Rattle.am_limit.specs.Books.{limits_of}
use Rattle.am_limit.proofs.BookLemmas.{limits_of-get}
use Rattle.am_limit.proofs.book.LimitBook.of.Goals as goal

pub returns : goal.returns
returns c =
    c.unwrap_or.ensures
    ∙ ap (λ o. unwrap_or o c.self.inside.usual) (c.copied.ensures ∙ c.get.ensures.value)
    ∙ sym (limits_of-get c.args.tenant.now c.self.inside.usual c.self.inside.own)
    ∙ ap (limits_of c.args.tenant.now) c.self.view_is
