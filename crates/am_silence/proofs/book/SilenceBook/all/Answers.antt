use Rattle.std.proofs.Common.{ap, sym, ◌∙◌}
use Rattle.std.proofs.lemmas.Result.{IfOk-weaker}
use Rattle.am_silence.specs.Held.{silences_among}
use Rattle.am_silence.proofs.HeldLemmas.{among_held, among_silences}
use Rattle.am_silence.proofs.book.SilenceBook.all.Goals as goal

pub returns : goal.returns
returns c =
    IfOk-weaker c.all_of.result _ _
    (λ v is. is ∙ sym (among_held c.silences.result.now) ∙ ap silences_among c.silences.ensures.items
    ∙ sym (among_silences c.self.inside.held.now) ∙ ap silences_among c.self.view_is)
    c.all_of.ensures
