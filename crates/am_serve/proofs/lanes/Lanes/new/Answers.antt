use Rattle.std.proofs.Common.{ℕ, List, ap}
use Rattle.std.specs.Map.{lookup}
use Rattle.am_tenant.specs.Names.{same}
use Rattle.am_serve.specs.declared.lanes.Lane.{Lane}
use Rattle.am_serve.specs.Lanes.{under_way_in, under_way_of, waiting_in, waiting_of}
use Rattle.am_serve.proofs.lanes.Lanes.new.Goals as goal

pub returns-clause-waiting : goal.returns-clause-waiting
unfolding waiting_of
returns-clause-waiting g c = λ t. ap (λ (entries : List (List ℕ × Lane g.row.T.Denot)). waiting_in (lookup (λ name. same t name) entries)) c.new.ensures.empty

pub returns-clause-under_way : goal.returns-clause-under_way
unfolding under_way_of
returns-clause-under_way g c = λ t. ap (λ (entries : List (List ℕ × Lane g.row.T.Denot)). under_way_in (lookup (λ name. same t name) entries)) c.new.ensures.empty
