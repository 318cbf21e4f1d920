use Rattle.am_gateway.proofs.gateway.Gateway.settle.Goals as goal

pub returns : goal.returns
returns g c = record {
  told = (c.tell.result, c.tell.ensures.told);
  is_tick_due = c.tell.ensures.is_tick_due;
  under_way = c.tell.ensures.under_way;
  same = record { moment = c.tell.ensures.same.moment; ready = c.tell.ensures.same.ready };
}
