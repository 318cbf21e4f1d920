use Rattle.std.proofs.Common.{ap, sym, ◌∙◌, unwrap_or}
use Rattle.am_item.specs.Counts.{count_of}
use Rattle.am_item.proofs.Tallies.{count_of-get}
use Rattle.am_item.proofs.counts.Counts.used.Goals as goal

pub returns : goal.returns
returns c =
    c.unwrap_or.ensures ∙ ap (λ o. unwrap_or o 0) (c.copied.ensures ∙ c.get.ensures.value)
    ∙ sym (count_of-get c.args.tenant.now c.self.inside.used)
    ∙ ap (count_of c.args.tenant.now) c.self.view_is
