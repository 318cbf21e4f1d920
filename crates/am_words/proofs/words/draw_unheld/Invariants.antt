use Rattle.am_words.proofs.DrawLemmas.{Drawn}
use Rattle.am_words.proofs.words.draw_unheld.Given as goal

abbrev pub invariant-loop-draw : goal.invariant-loop-draw
invariant-loop-draw l = Drawn l.held l.fn.words l.words l._draw
