use Rattle.am_cluster.proofs.Replied.{operations_answer_requests, replies_answer_requests}
use Rattle.am_cluster.proofs.laws.replies_answer_requests.Goals as goal

pub returns-clause-operations : goal.returns-clause-operations
returns-clause-operations c = operations_answer_requests

pub returns-clause-replies : goal.returns-clause-replies
returns-clause-replies c = replies_answer_requests
