use Rattle.std.proofs.Common.{◌≡◌, ◌+◌, ◌++◌, ◌∷◌, [], ◌∙◌, length, take, arith}
use Rattle.std.proofs.Math.Seq.{take-length}
use Rattle.std.proofs.lemmas.List.{take_more}
use Rattle.std.proofs.lemmas.List.Elements.{All-push}
use Rattle.am_match.specs.Matchers.{IsMatcher}
use Rattle.am_match.proofs.PrintingLemmas.{further, written_more, written-further}
use Rattle.am_match.proofs.printing.push_others.Goals as goal

pub loop-matcher-preserved : goal.loop-matcher-preserved
loop-matcher-preserved c =
    let i = c.loop-matcher.matcher-index in
    let ms = c.args.matchers.now in
    let m = c.matcher-item.result in
    let more : take (i + 1) ms ≡ take i ms ++ m ∷ [] = take_more ms i m c.loop-matcher-test.true ∙ rw (← c.matcher-item.is) in
    rw more (
      written_more further _ _ _ (take i ms) m c.loop-matcher.invariant.0
          (written-further m _ _ _ c.in_ok-push.ensures.bytes c.in_ok-push_matcher.ensures.text),
      All-push IsMatcher (take i ms) m c.loop-matcher.invariant.1 c.in_ok-push_matcher.ensures.matcher,
    )

pub returns-clause-matchers : goal.returns-clause-matchers
returns-clause-matchers c =
    let at : c.loop-matcher.matcher-index ≡ length c.args.matchers.now = omega arith in
    rw (at, take-length) at c.loop-matcher.invariant.1
