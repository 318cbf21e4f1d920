use Rattle.std.proofs.Common.{[], ◌++◌, ◌∷◌, ◌∙◌, refl}
use Rattle.am_serve.specs.Giving.{Relieves}
use Rattle.am_serve.proofs.ActLists.{FoldsTo-append}
use Rattle.am_serve.proofs.clients.Clients.relieve.Goals as goal

pub loop-preserved : goal.loop-preserved
loop-preserved g c =
    let so_far = c.loop.invariant in
    let one = c.relieve_one.ensures.goes c.loop-test.true in (
      (
        so_far.0.0 ++ one.0 ∷ [],
        FoldsTo-append Relieves _ so_far.0.0 _ (one.0 ∷ []) _ so_far.0.1 (c.relieve_one.new.self.clients, one.1, refl),
      ),
      c.relieve_one.ensures.opened ∙ so_far.1,
      c.relieve_one.ensures.limit ∙ so_far.2,
    )
