use Rattle.std.proofs.Common.{◌≡◌, ap, sym, ◌∙◌}
use Rattle.std.specs.Option.{is_some}
use Rattle.am_item.specs.Held.{silence_item}
use Rattle.am_words.proofs.DrawLemmas.{is_held-by, some_copied}
use Rattle.am_words.proofs.words.is_held.Goals as goal

pub returns : goal.returns
returns c =
    let found : is_some c.get.result ≡ is_some _ = some_copied c.get.result ∙ ap is_some c.get.ensures in
    c.is_some.ensures ∙ found
    ∙ sym (is_held-by c.args.held.now c.args.id.now (silence_item c.args.id.now) _ (c.silences.ensures.at c.args.id.now))
