use Rattle.std.proofs.Common.{◌≡◌, ◌+◌, [], true, false, ap, get_or, length, sym, ◌∙◌, arith}
use Rattle.am_ring.proofs.Strict.{found_more, scanned, scanned_all, scanned_no, scanned_yes}
use Rattle.am_ring.proofs.nearest.nearest.Goals as goal
use Rattle.am_ring.proofs.nearest.nearest.Goals.{then-is_left, else-is_left}

pub loop-index-preserved : goal.loop-index-preserved
loop-index-preserved c =
    let k = c.loop-index.index in
    let flags = c.args.left.now in
    elim c.if-is_left.branch [
      | then-is_left w ↦
          let test : get_or flags k false ≡ true = w.if-is_left.true in
          rw (w.found-is, scanned_yes flags k c.loop-index-test.true test)
          (found_more c.args.place (scanned flags k) c.loop-index.found (k + 1) w.nearer.result c.loop-index.invariant (rw w.at.ensures at w.nearer.ensures))
      | else-is_left w ↦
          let test : get_or flags k false ≡ false = w.if-is_left.false in
          rw (w.found-is, scanned_no flags k c.loop-index-test.true test) c.loop-index.invariant
    ]

pub unreachable-requires : goal.unreachable-requires
unreachable-requires c =
    let all : c.loop-index.index ≡ 8 = omega arith in
    let none : scanned c.args.left.now 8 ≡ [] = rw (c.in-None.is, all) at c.loop-index.invariant in
    omega (arith, c.requires, ap length (sym (scanned_all c.args.left.now) ∙ none))

pub returns : goal.returns
returns c =
    let all : c.loop-index.index ≡ 8 = omega arith in
    rw (c.in-Some.is, all, scanned_all c.args.left.now) at c.loop-index.invariant
