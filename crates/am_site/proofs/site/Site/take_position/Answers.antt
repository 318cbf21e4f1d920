use Rattle.std.proofs.Common.{ap, option_map, sym, ◌∙◌}
use Rattle.std.proofs.lemmas.Result.{IfErr-weaker, on_ok_weaker}
use Rattle.am_cluster.specs.Plans.{position_of}
use Rattle.am_notifier.specs.Positions.{number_of}
use Rattle.am_site.specs.Here.{here_of}
use Rattle.am_site.proofs.Positioned.{all_stay, not_there, one_position, one_positioned, others_positioned, stops_moving}
use Rattle.am_site.proofs.site.Site.take_position.Goals as goal

pub returns-then-is_at-clause-position : goal.returns-then-is_at-clause-position
returns-then-is_at-clause-position c =
    one_position _ (option_map number_of c.position-position.result) (sym c.is_at.ensures ∙ c.if-is_at.true) ∙ c.position-position.ensures

pub returns-clause-stays : goal.returns-clause-stays
returns-clause-stays c =
    on_ok_weaker c.set_position.result (λ makes. all_stay c.args.here.now.tenant.now (option_map number_of c.position-position.result) c.args.self.now c.set_position.new.self makes) c.set_position.ensures.does

pub returns-clause-position : goal.returns-clause-position
returns-clause-position c =
    on_ok_weaker c.set_position.result
    (λ makes. one_positioned c.args.here.now.tenant.now (option_map number_of c.position-position.result) c.args.self.now.node c.set_position.new.self makes ∙ c.position-position.ensures
    ∙ ap (position_of (here_of c.args.here.now))
    (sym (all_stay c.args.here.now.tenant.now (option_map number_of c.position-position.result) c.args.self.now c.set_position.new.self makes c.args.here.now.tenant.now))) c.set_position.ensures.does

pub returns-clause-others : goal.returns-clause-others
returns-clause-others c =
    on_ok_weaker c.set_position.result
    (λ makes. others_positioned c.args.here.now.tenant.now (option_map number_of c.position-position.result) c.args.self.now.node c.set_position.new.self makes) c.set_position.ensures.does

pub returns-clause-fault : goal.returns-clause-fault
returns-clause-fault c =
    IfErr-weaker c.set_position.result _ _
    (λ fault stops. stops_moving c.set_position.new.cache.refused c.args.here.now c.args.self.now fault
    (not_there _ (option_map number_of c.position-position.result) _ (sym c.is_at.ensures ∙ c.if-is_at.false) c.position-position.ensures) stops)
    c.set_position.ensures.fault
