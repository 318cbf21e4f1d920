use Rattle.std.proofs.Common.{ap, sym, ◌∙◌, filter}
use Rattle.std.proofs.lemmas.Result.{IfOk-weaker}
use Rattle.am_silence.specs.Having.{has_matchers, having}
use Rattle.am_silence.specs.Held.{SilenceValue, silences_among}
use Rattle.am_silence.proofs.HeldLemmas.{among_held, among_silences}
use Rattle.am_silence.proofs.book.SilenceBook.having.Goals as goal

pub returns : goal.returns
unfolding having
returns c =
    IfOk-weaker c.having.result _ _
    (λ v is. is ∙ ap (filter (λ (s : SilenceValue). has_matchers s.details.matchers c.args.wanted.now))
    (sym (among_held c.silences.result.now) ∙ ap silences_among c.silences.ensures.items
    ∙ sym (among_silences c.self.inside.held.now) ∙ ap silences_among c.self.view_is))
    c.having.ensures
