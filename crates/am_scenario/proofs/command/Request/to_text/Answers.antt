use Rattle.am_scenario.proofs.command.Request.to_text.Goals as goal

pub returns : goal.returns
returns c = simp (c.as_str-method.ensures, c.as_str-path.ensures, c.as_str-body.ensures, c.in_ok-tenant.ensures) at c.format.ensures.ok
