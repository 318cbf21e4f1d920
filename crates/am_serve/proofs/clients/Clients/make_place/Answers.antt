use Rattle.am_serve.proofs.clients.Clients.make_place.Goals as goal

pub returns-clause-goes : goal.returns-clause-goes
returns-clause-goes g c = λ _. record {
  key = c.in-Some.key;
  longest = c.in-Some.ensures.some;
  goes = rw c.in-Some.ensures.some.there at c.let_go.ensures.goes;
  others = c.let_go.ensures.others;
}
