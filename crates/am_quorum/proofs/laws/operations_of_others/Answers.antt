use Rattle.am_quorum.proofs.Others.{operations_seen, others_stay, same_list}
use Rattle.am_quorum.proofs.laws.operations_of_others.Goals as goal

pub returns : goal.returns
returns c = record {
  seen = λ t ops up. operations_seen t ops up;
  others = λ tenant change old new was is changes. others_stay tenant change old new was is changes;
  none = λ tenant old new was is stays t other. same_list t old new was is (stays t);
}
