use Rattle.am_quorum.proofs.docket.Docket.wait.Goals as goal

pub invariant_of-self : goal.invariant_of-self
invariant_of-self c = record {
  rising = c.set_stage.ensures.rising;
  numbered = c.set_stage.ensures.numbered;
  past = c.set_stage.ensures.used c.self.inside.used c.self.invariant.past;
}
