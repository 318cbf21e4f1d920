use Rattle.am_http.proofs.AddLemmas.{only_memory, goes_in}
use Rattle.am_http.proofs.paths.add.Goals as goal
use Rattle.am_http.proofs.paths.add.Goals.{in-OutOfMemory, in_default}

pub prove-unreachable-requires : goal.prove-unreachable-requires
prove-unreachable-requires c =
    let refused = only_memory c.args.route.now c.args.path c.args.router.now _ c.in-Err.error c.requires (rw c.in-Err.is at c.insert.ensures) in
    elim c.match-matches.branch [
      | in-OutOfMemory w ↦ let t = w.matches-is in let f = c.if-prove.true in cc
      | in_default w ↦ w.in_default.not-OutOfMemory refused
    ]

pub returns-in-Ok : goal.returns-in-Ok
returns-in-Ok c = goes_in c.args.route.now c.args.path c.args.router.now _ _ c.requires (rw c.in-Ok.is at c.insert.ensures)
