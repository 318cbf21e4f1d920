use Rattle.std.proofs.Common.{◌∙◌, ℕ, List, ap, inl, inr, sym}
use Rattle.std.proofs.lemmas.Result.{err_from_is_err_and}
use Rattle.am_cluster.specs.Courses.{told_all}
use Rattle.am_cluster.specs.PrivateCluster.{opened}
use Rattle.am_cluster.specs.View.{first_watch, view}
use Rattle.am_item.specs.declared.item.Item.{Item}
use Rattle.am_world.specs.Shelves.{rows_in, shelves_of}
use Rattle.am_setup.specs.Setup.{Origin}
use Rattle.am_world.proofs.theorem.run_both.Goals as goal

pub returns : goal.returns
returns g c =
    let rows = rows_in (shelves_of g.R.Rows c.args.stores.items) in
    let other_rows = rows_in (shelves_of g.R.Rows c.args.other_stores.items) in
    let own = c.args.setup.origin in
    let other = c.args.other_setup.origin in
    record {
      steps = c.in_ok-world.ensures.steps;
      other_steps = c.in_ok-other.ensures.steps;
      equal = λ none other_none clean other_clean start once other_once t stored same built other_built.
          (c.in_ok-world.ensures.alone none clean once).tenants t built
          ∙ ap (λ (setting : Origin). told_all (opened setting t (rows t))
          (view t (first_watch own) c.args.events.now)) start
          ∙ ap (λ (had : ℕ → List Item). told_all (opened other t had) (view t (first_watch own) c.args.events.now))
          stored
          ∙ ap (told_all (opened other t (other_rows t))) same
          ∙ sym ((c.in_ok-other.ensures.alone other_none other_clean other_once).tenants t other_built);
      refused = tt;
    }

pub returns-in_err-world-clause-refused : goal.returns-in_err-world-clause-refused
returns-in_err-world-clause-refused g c =
    let p = err_from_is_err_and c.from_residual.result c.from_residual.ensures.1 in
    rw (p.1, p.2) (inl c.in_err-world.ensures.refused)

pub returns-in_err-other-clause-refused : goal.returns-in_err-other-clause-refused
returns-in_err-other-clause-refused g c =
    let p = err_from_is_err_and c.from_residual-in_err-other.result c.from_residual-in_err-other.ensures.1 in
    rw (p.1, p.2) (inr c.in_err-other.ensures.refused)
