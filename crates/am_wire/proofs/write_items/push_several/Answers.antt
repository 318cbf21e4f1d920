use Rattle.std.proofs.Common.{◌≡◌, ◌+◌, ◌++◌, ◌∷◌, [], ◌∙◌, length, take, arith}
use Rattle.std.proofs.Math.Seq.{take-length}
use Rattle.std.proofs.lemmas.List.{take_more}
use Rattle.std.proofs.lemmas.List.Elements.{All-push}
use Rattle.am_match.specs.Matchers.{IsMatcher}
use Rattle.am_wire.specs.ItemFields.{matcher_bytes}
use Rattle.am_wire.proofs.Written.{written_more}
use Rattle.am_wire.proofs.write_items.push_several.Goals as goal

pub loop-matcher-preserved : goal.loop-matcher-preserved
loop-matcher-preserved c =
    let i = c.loop-matcher.matcher-index in
    let xs = c.args.matchers.now in
    let m = c.matcher-item.result in
    let more : take (i + 1) xs ≡ take i xs ++ m ∷ [] = take_more xs i m c.loop-matcher-test.true ∙ rw (← c.matcher-item.is) in
    rw (more) (
      written_more matcher_bytes c.args.out.now.items _ _ (take i xs) m c.loop-matcher.invariant.0 c.in_ok-push_matcher.ensures.bytes,
      All-push IsMatcher (take i xs) m c.loop-matcher.invariant.1 c.in_ok-push_matcher.ensures.valid,
    )

pub returns-clause-valid : goal.returns-clause-valid
returns-clause-valid c =
    let at : c.loop-matcher.matcher-index ≡ length c.args.matchers.now = omega arith in
    rw (at, take-length) at c.loop-matcher.invariant.1
