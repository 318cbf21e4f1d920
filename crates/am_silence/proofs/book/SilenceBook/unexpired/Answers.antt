use Rattle.std.proofs.Common.{ap, sym, ◌∙◌, ◌≡◌}
use Rattle.am_silence.specs.Held.{all_held, silences_among, unexpired}
use Rattle.am_silence.proofs.HeldLemmas.{among_held, among_silences}
use Rattle.am_silence.proofs.book.SilenceBook.unexpired.Goals as goal

pub returns : goal.returns
unfolding unexpired
returns c =
    let held : all_held c.silences.result.now ≡ silences_among c.args.self.now =
    sym (among_held c.silences.result.now) ∙ ap silences_among c.silences.ensures.items
    ∙ sym (among_silences c.self.inside.held.now) ∙ ap silences_among c.self.view_is in
    rw (← held) c.unexpired_of.ensures
