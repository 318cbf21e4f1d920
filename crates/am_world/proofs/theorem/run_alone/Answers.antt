use Rattle.am_world.specs.Shelves.{rows_in, shelves_of}
use Rattle.am_world.proofs.Rosters.{clean_all}
use Rattle.am_world.proofs.RunOpened.{alone_opening}
use Rattle.am_world.proofs.theorem.run_alone.Goals as goal

pub returns : goal.returns
returns g c = record {
  steps = λ clean. (
    _,
    c.in_ok-world.ensures.opens (λ i exists. c.run.ensures.clean i (clean i exists)),
    c.run.ensures.steps,
  );
  alone = λ none clean once.
      let opens = c.in_ok-world.ensures.opens (λ i exists. c.run.ensures.clean i (clean i exists)) in
      alone_opening c.args.setup.origin (rows_in (shelves_of g.R.Rows c.args.stores.items)) _
      c.args.events.now _ opens c.run.ensures.steps c.run.ensures.headline none
      (clean_all c.args.events.now _ _ clean) once;
  refused = tt;
}
